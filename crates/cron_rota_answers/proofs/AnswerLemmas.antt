-- What is told of a rota, and why nothing is.
use Rattle.std.proofs.Common.{◌≡◌, ℕ, ◌<◌, ℤ, pos, Bool, true, false, Option, Some, None, List, get_or, length, refl, sym, ap, ◌∙◌, arith}
use Rattle.std.specs.Prelude.{◌==◌, ◌&&◌, nat_lt, not, Result, Ok, Err, MatchResult, IsOk}
use Rattle.std.specs.List.{list_all}
use Rattle.std.specs.Str.{trim}
use Rattle.std.proofs.lemmas.Bool.{lt-ltb}
use Rattle.std.proofs.lemmas.List.{length-map}
use Rattle.std.proofs.lemmas.List.Folds.{list_all_at}
use Rattle.std.proofs.lemmas.List.Quantifiers.{position-Some}
use Rattle.std.proofs.lemmas.List.Splits.{length-slice_split}
use Rattle.jiff_tz.specs.declared.timezone.TimeZone.{TimeZone}
use Rattle.cron_replies.specs.Statuses.{is_write_failure}
use Rattle.cron_replies.specs.declared.form.Form.{Form}
use Rattle.cron_replies.specs.declared.status.Status.{Status}
use Rattle.cron_rotas.specs.Errors.{IsNoRota}
use Rattle.cron_rotas.specs.Rotas.{Duty, is_rota, is_swap_of}
use Rattle.cron_rotas.specs.declared.error.RotaError.{RotaError}
use Rattle.cron_rotas.specs.declared.error.RotaError.TheVariants.{NoPeople, Swap as WrongSwap}
use Rattle.cron_rotas.specs.declared.swap.Swap.{Swap}
use Rattle.cron_rotas.proofs.DutyLemmas.{some_people as rota_people}
use Rattle.cron_rota_answers.proofs.SwapLemmas.{swaps_fit}
use Rattle.cron_rota_answers.specs.Cells.{parts}
use Rattle.cron_rota_answers.specs.Lines.{lines_of}
use Rattle.cron_rota_answers.specs.People.{ArePeople}
use Rattle.cron_rota_answers.specs.Plans.{AreNoSwapsOf, AreSwapsOf, HasTimes, IsNoPlan, IsPlan}
use Rattle.cron_rota_answers.specs.Reports.{IsReport}
use Rattle.cron_rota_answers.specs.Rows.{who_status}
use Rattle.cron_rota_answers.specs.Swaps.{Given, given}
use Rattle.cron_rota_answers.specs.declared.report.Asked.{Asked}
use Rattle.cron_rota_answers.specs.declared.report.Asked.TheVariants.{Between, At}
use Rattle.cron_rota_answers.specs.declared.request.Request.{Request}
use Rattle.cron_rota_answers.specs.declared.request.SwapFile.{SwapFile}
use Rattle.cron_rota_answers.specs.declared.people.PeopleError.{PeopleError}
use Rattle.cron_rota_answers.specs.declared.trouble.RotaTrouble.{RotaTrouble}
use Rattle.cron_rota_answers.specs.declared.trouble.RotaTrouble.TheVariants.{Words, People, Swaps}
use Rattle.cron_answers.specs.declared.trouble.Trouble.{Trouble}

-- ---- the words mean a rota

some_people : (text : List ℕ) (names : List (List ℕ)) → ArePeople text names → 0 < length names
some_people text names (are, good, few) =
    let same : length names ≡ length (parts 44 text) = ap length are ∙ length-map (parts 44 text) trim in
    let some = length-slice_split (λ b. b == 44) text in
    omega (arith, same, some)

swaps_of_fit : (names : List (List ℕ)) (z : TimeZone) (now : ℤ) (file : Option SwapFile) (swaps : List Swap) → AreSwapsOf (given names z now) file swaps
    → list_all (is_swap_of (length names)) swaps ≡ true
swaps_of_fit names z now None swaps none = ap (list_all (is_swap_of (length names))) none
swaps_of_fit names z now (Some file) swaps are = swaps_fit (given names z now) (lines_of file.bytes.now) swaps are

pub is_rota_planned : (r : Request) (z : TimeZone) (now start : ℤ) (what : Asked) (names : List (List ℕ)) (swaps : List Swap) → IsPlan r z now start what names swaps
    → is_rota (length names) swaps ≡ true
is_rota_planned r z now start what names swaps plan =
    ap (λ b. b && list_all (is_swap_of (length names)) swaps) (lt-ltb 0 (length names) (some_people r.people.now names plan.people))
    ∙ swaps_of_fit names z now r.swaps swaps plan.are_swaps

-- ---- a rota isn't refused

not_true : (b : Bool) → not b ≡ true → b ≡ false
not_true true h = absurd (cc)
not_true false h = refl

both_no : (a b : Bool) → (a && b) ≡ true → b ≡ false → ⊥
both_no true b is fails = let same : true ≡ false = sym is ∙ fails in cc
both_no false b is fails = cc

pub no_error : (people : ℕ) (swaps : List Swap) (error : RotaError) → is_rota people swaps ≡ true → IsNoRota people swaps error → ⊥
no_error people swaps NoPeople is none = let some = rota_people people swaps is in omega (arith, some, none)
no_error people swaps (WrongSwap i) is (some, wrong) =
    let d : Swap = record { from = pos 0; until = pos 0; person = 0 } in
    let (below, fails, before) = position-Some (λ s. not (is_swap_of people s)) swaps i d wrong in
    let bad : is_swap_of people (get_or swaps i d) ≡ false = not_true (is_swap_of people (get_or swaps i d)) fails in
    both_no (nat_lt 0 people) (list_all (is_swap_of people) swaps) is (list_all_at (is_swap_of people) swaps i d below bad)

-- ---- statuses

who_done : (who : Option (List ℕ)) → is_write_failure (who_status who) ≡ false
who_done None = refl
who_done (Some name) = refl

pub report_done : (form : Form) (z : TimeZone) (names : List (List ℕ)) (what : Asked) (d : Duty) (text : List ℕ) (status : Status) → IsReport form z names what d text status
    → is_write_failure status ≡ false
report_done form z names (Between from to) d text status (rows, is) = ap is_write_failure is
report_done form z names (At t) d text status (row, is) = ap is_write_failure is ∙ who_done _

-- ---- a result whose error can't be

pub ok_only : {A E : Type 0} (P : A → Type 0) (Q : E → Type 0) (r : Result A E) → MatchResult r P Q → ((e : E) → Q e → ⊥) → IsOk r
ok_only P Q (Ok x) h none = refl
ok_only P Q (Err e) h none = absurd (none e h)

-- ---- why there is no plan

words_none : (g : Given) (file : Option SwapFile) (t : Trouble) → AreNoSwapsOf g file (Words t) → ⊥
words_none g None t h = h
words_none g (Some file) t h = h

people_none : (g : Given) (file : Option SwapFile) (why : PeopleError) → AreNoSwapsOf g file (People why) → ⊥
people_none g None why h = h
people_none g (Some file) why h = h

pub no_swaps : (r : Request) (z : TimeZone) (now : ℤ) (names : List (List ℕ)) (t : RotaTrouble) → HasTimes r z now → ArePeople r.people.now names
    → AreNoSwapsOf (given names z now) r.swaps t → IsNoPlan r z now t
no_swaps r z now names (Swaps name why) times people h = (times, (names, people, h))
no_swaps r z now names (Words t) times people h = absurd (words_none (given names z now) r.swaps t h)
no_swaps r z now names (People why) times people h = absurd (people_none (given names z now) r.swaps why h)
