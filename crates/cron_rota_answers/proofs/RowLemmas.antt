-- Rows of shifts, one after another, and the seconds of shifts.
use Rattle.std.proofs.Common.{◌≡◌, ℕ, zero, suc, ◌<◌, ◌≤◌, ◌++◌, ℤ, ◌-ℤ◌, ◌≤ℤ◌, ◌<ℤ◌, List, [], ◌∷◌, get_or, length, refl, sym, ap, ◌∙◌, subst, append_assoc, append-nil, arith}
use Rattle.std.specs.Borrow.{Bor}
use Rattle.std.specs.Prelude.{nat_eq}
use Rattle.std.specs.Int.{int_max}
use Rattle.std.proofs.lemmas.Int.{ints, by_lt_z, clamps}
use Rattle.jiff_tz.specs.declared.timezone.TimeZone.{TimeZone}
use Rattle.cron_replies.specs.declared.form.Form.{Form}
use Rattle.cron_rotas.proofs.StepLemmas.{nat_eq-is}
use Rattle.cron_rotas.specs.Rotas.{Duty, person_at, shifts_between}
use Rattle.cron_stretches.proofs.StretchLemmas.{row, seconds_from-none}
use Rattle.cron_stretches.specs.Fires.{IsInstant}
use Rattle.cron_stretches.specs.Laws.{IsRow as IsRowOf}
use Rattle.cron_stretches.specs.Stretches.{seconds_from, stretches}
use Rattle.cron_stretches.specs.declared.stretch.Stretch.{Stretch}
use Rattle.cron_rota_answers.specs.Inner.Rows.{AddsRow}
use Rattle.cron_rota_answers.specs.People.{texts}
use Rattle.cron_rota_answers.specs.Rows.{AreRows}

-- ---- names

pub name_at : (names : List (Bor (List ℕ))) (n : ℕ) (name : Bor (List ℕ)) → n < length names → name ≡ get_or names n name → name.now ≡ get_or (texts names) n []
name_at [] n name some is = absurd (omega arith)
name_at (x ∷ names) zero name some is = ap (λ (b : Bor (List ℕ)). b.now) is
name_at (x ∷ names) (suc n) name some is = name_at names n name (omega arith) is

pub no_name : (names : List (Bor (List ℕ))) (n : ℕ) → length names ≤ n → get_or (texts names) n [] ≡ []
no_name [] n none = refl
no_name (x ∷ names) zero none = absurd (omega arith)
no_name (x ∷ names) (suc n) none = no_name names n (omega arith)

-- ---- one row more

pub rows_on : (form : Form) (z : TimeZone) (names : List (List ℕ)) (s : Stretch ℕ) (shifts more all : List (Stretch ℕ)) (old new : List ℕ)
    → shifts ≡ s ∷ more → AddsRow form z names s old new
    → ((rest : List ℕ) → AreRows form z names shifts rest → AreRows form z names all (old ++ rest))
    → (rest : List ℕ) → AreRows form z names more rest → AreRows form z names all (new ++ rest)
rows_on form z names s shifts more all old new cut (here, added, is) so_far rest are =
    subst (AreRows form z names all) (sym (append_assoc old here rest) ∙ ap (λ (l : List ℕ). l ++ rest) (sym added))
    (so_far (here ++ rest) (subst (λ (l : List (Stretch ℕ)). AreRows form z names l (here ++ rest)) (sym cut) (here, rest, refl, is, are)))

pub rows_end : (form : Form) (z : TimeZone) (names : List (List ℕ)) (shifts all : List (Stretch ℕ)) (rows : List ℕ) → shifts ≡ []
    → ((rest : List ℕ) → AreRows form z names shifts rest → AreRows form z names all (rows ++ rest)) → AreRows form z names all rows
rows_end form z names shifts all rows none so_far =
    subst (AreRows form z names all) (append-nil rows)
    (so_far [] (subst (λ (l : List (Stretch ℕ)). AreRows form z names l []) (sym none) refl))

-- ---- where shifts begin and end

-- each begins and ends between two seconds
abbrev pub AreWithin : ℤ → ℤ → List (Stretch ℕ) → Type 0
AreWithin a b [] = Unit {0}
AreWithin a b (s ∷ l) = (a ≤ℤ s.first) × (s.first ≤ℤ b) × (a ≤ℤ s.end) × (s.end ≤ℤ b) × AreWithin a b l

row_grows : (first b : ℤ) (l : List (Stretch ℕ)) → IsRowOf nat_eq first b l → first ≤ℤ b
row_grows first b [] same = omega (arith, ints)
row_grows first b (s ∷ l) (same, less, unlike, rest) = let most = row_grows s.end b l rest in omega (arith, ints)

row_within : (a first b : ℤ) (l : List (Stretch ℕ)) → a ≤ℤ first → IsRowOf nat_eq first b l → AreWithin a b l
row_within a first b [] low is = tt
row_within a first b (s ∷ l) low (same, less, unlike, rest) =
    let most : s.end ≤ℤ b = row_grows s.end b l rest in
    let end : a ≤ℤ s.end = omega (arith, ints) in
    (omega (arith, ints), omega (arith, ints), end, most, row_within a s.end b l end rest)

none_between : (d : Duty) (n : ℤ) (k : ℕ) → k ≡ 0 → stretches nat_eq (person_at d) n k ≡ []
unfolding stretches
none_between d n k none = rw none refl

pub shifts_within : (d : Duty) (from to : ℤ) → AreWithin from to (shifts_between d from to)
shifts_within d from to = by_lt_z to (int_max from d.start) early late
  where
    early : to <ℤ int_max from d.start → AreWithin from to (shifts_between d from to)
    early less =
        let few : seconds_from (to -ℤ int_max from d.start) ≡ 0 = seconds_from-none (to -ℤ int_max from d.start) (omega (arith, ints)) in
        subst (AreWithin from to) (sym (none_between d (int_max from d.start) (seconds_from (to -ℤ int_max from d.start)) few)) tt

    late : int_max from d.start ≤ℤ to → AreWithin from to (shifts_between d from to)
    late le =
        row_within from (int_max from d.start) to (shifts_between d from to) (omega (arith, ints, clamps))
        (row nat_eq nat_eq-is (person_at d) (int_max from d.start) to le)

pub instant_between : (a b n : ℤ) → IsInstant a → IsInstant b → a ≤ℤ n → n ≤ℤ b → IsInstant n
instant_between a b n low high after before = (omega (arith, ints, low.0), omega (arith, ints, high.1))
