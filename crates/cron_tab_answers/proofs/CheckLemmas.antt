-- Lines and warnings that were told so far.
use Rattle.std.proofs.Common.{◌≡◌, ◌++◌, ◌||◌, ℕ, Bool, true, false, Option, Result, Ok, Err, List, [], ◌∷◌, inl, inr, refl, sym, ap, ◌∙◌, subst, append_assoc, append-nil}
use Rattle.std.specs.Prelude.{⊤, take, IfOk}
use Rattle.std.specs.Str.Lossy.{utf8_valid_len}
use Rattle.std.specs.declared.alloc.AllocError.{AllocError}
use Rattle.std.specs.declared.io.Error.{Error}
use Rattle.cron_writer.specs.Calls.{AreWrites, IsFlushed}
use Rattle.cron_writer.proofs.Sending.{both_ways}
use Rattle.cron_crontab.specs.Views.{expression_view}
use Rattle.cron_controls.specs.Controls.{shown_by}
use Rattle.cron_tab_lines.specs.Files.{FileLine}
use Rattle.cron_tab_lines.specs.Entries as entries
use Rattle.cron_tab_lines.specs.Lines.{Meaning, entry}
use Rattle.cron_tab_lines.specs.Refusals as refusals
use Rattle.cron_tab_lines.specs.Views.{entry_view, outcome_view}
use Rattle.cron_tab_lines.specs.declared.kinds.Entry.{Entry}
use Rattle.cron_tab_lines.specs.declared.kinds.Line.{Line}
use Rattle.cron_tab_lines.specs.declared.kinds.Line.TheVariants.{Entry as Read}
use Rattle.cron_tab_lines.specs.declared.refusals.Refusal.{Refusal}
use Rattle.cron_tab_answers.specs.Checks.{any_refused, refuses, EndsAs, TellsFound, TellsIfWanted, TellsLine, TellsLines, TellsOfEntry, TellsOfFields, TellsOfLine}
use Rattle.cron_replies.specs.Inner.Telling.{AppendsTold}
use Rattle.cron_tab_answers.specs.Inner.Checks.{end_of}
use Rattle.cron_replies.specs.Statuses.{Ends, is_write_failure}
use Rattle.cron_tab_answers.specs.declared.check.Wanted.{Wanted}
use Rattle.cron_replies.specs.declared.status.Status.{Status}
use Rattle.cron_replies.specs.declared.status.Status.TheVariants.{Done, No, Unreadable}

-- an entry's meaning is told, whatever shows that the line is one
of_meaning : (w : Wanted) (number : ℕ) (view : Result Meaning refusals.Refusal) (e : entries.Entry) (text old new : List ℕ) → view ≡ Ok (entry e)
    → AppendsTold (TellsOfFields w number text e.meaning) old new → AppendsTold (TellsOfEntry w number view text) old new
of_meaning w number view e text old new is h = subst (λ v. AppendsTold (TellsOfEntry w number v text) old new) (sym is) h

-- a line's entry has an expression
pub of_entry : (w : Wanted) (number : ℕ) (read : Result Line Refusal) (e : Entry) (fields text old new : List ℕ)
    → read ≡ Ok (Read e) → fields ≡ text → AppendsTold (TellsOfFields w number fields (expression_view e.expression)) old new
    → AppendsTold (TellsOfEntry w number (outcome_view read) text) old new
of_entry w number read e fields text old new is same h =
    of_meaning w number (outcome_view read) (entry_view e) text old new (ap outcome_view is)
    (subst (λ (f : List ℕ). AppendsTold (TellsOfFields w number f (expression_view e.expression)) old new) same h)

-- all kinds of warnings were told
pub warnings_told : (warn : Bool) (w : Wanted) (line : FileLine) (old mid more new : List ℕ) → warn ≡ true
    → AppendsTold (TellsOfEntry w line.number line.outcome (take (utf8_valid_len line.bytes) line.bytes)) old mid
    → AppendsTold (TellsOfLine w.front.now line) mid more → AppendsTold (TellsFound w line.number) more new → AppendsTold (TellsIfWanted warn w line) old new
warnings_told false w line old mid more new wanted h g k = absurd (cc)
warnings_told true w line old mid more new wanted (one, e, told) (two, f, shown) (three, g, found) = (
  one ++ (two ++ three),
  g ∙ (ap (λ (t : List ℕ). t ++ three) (f ∙ ap (λ (t : List ℕ). t ++ two) e) ∙ (append_assoc (old ++ one) two three ∙ append_assoc old one (two ++ three))),
  record { of_entry = one; of_line = two; of_found = three; all = refl; entry = told; line = shown; found = found },
)

-- ---- lines

-- one more line is told
pub line_told : (w : Wanted) (checked : List FileLine) (line : FileLine) (report text : List ℕ) → TellsLines w checked report → TellsLine w line text
    → TellsLines w (checked ++ line ∷ []) (report ++ shown_by w.controls text)
line_told w [] line report text none h =
    let made = shown_by w.controls text in (text, [], ap (λ (r : List ℕ). r ++ made) none ∙ sym (append-nil made), h, refl)
line_told w (first ∷ checked) line report text (here, rest, e, t, more) h = (
  here,
  rest ++ shown_by w.controls text,
  ap (λ (r : List ℕ). r ++ shown_by w.controls text) e ∙ append_assoc (shown_by w.controls here) rest (shown_by w.controls text),
  t,
  line_told w checked line rest text more h,
)

-- and stands behind those in front
pub cut_on : {A : Type 0} (all checked left rest : List A) (line : A) → all ≡ checked ++ left → left ≡ line ∷ rest → all ≡ (checked ++ line ∷ []) ++ rest
cut_on all checked left rest line cut first = cut ∙ (ap (λ ls. checked ++ ls) first ∙ sym (append_assoc checked (line ∷ []) rest))

or_assoc : (a b c : Bool) → ((a || b) || c) ≡ (a || (b || c))
or_assoc true b c = refl
or_assoc false b c = refl

or_none : (a : Bool) → (a || false) ≡ a
or_none true = refl
or_none false = refl

any_on : (w : Wanted) (checked : List FileLine) (line : FileLine) → any_refused w (checked ++ line ∷ []) ≡ (any_refused w checked || refuses w line)
any_on w [] line = or_none (refuses w line)
any_on w (first ∷ checked) line =
    ap (λ (b : Bool). refuses w first || b) (any_on w checked line) ∙ sym (or_assoc (refuses w first) (any_refused w checked) (refuses w line))

-- and so whether one is refused
pub refused_on : (w : Wanted) (checked : List FileLine) (line : FileLine) (refused bad : Bool) → refused ≡ any_refused w checked → bad ≡ refuses w line
    → (refused || bad) ≡ any_refused w (checked ++ line ∷ [])
refused_on w checked line refused bad e f = rw (e, f) (sym (any_on w checked line))

-- ---- the end

-- once a call has failed the mark stays
stays_failed : {W : Type 0} (writes : W → List ℕ → Result ℕ Error → W → Type 0) (old new : W) (was failed : Bool) → AreWrites writes old was new failed
    → was ≡ true → failed ≡ true
stays_failed writes old new was failed ([], h) e = h.1 ∙ e
stays_failed writes old new was failed (c ∷ cs, h) e = absurd (both_ways was e h.0)

flushed_failed : {W : Type 0} (flushes : W → Result ⊤ Error → W → Type 0) (old new : W) (was failed : Bool) → IsFlushed flushes old was new failed
    → was ≡ true → failed ≡ true
flushed_failed flushes old new true failed h e = h.1
flushed_failed flushes old new false failed h e = absurd (cc)

-- a writer that hasn't failed at the end hadn't before
pub unfailed : {W : Type 0} (writes : W → List ℕ → Result ℕ Error → W → Type 0) (flushes : W → Result ⊤ Error → W → Type 0) (old mid new : W)
    (was now failed : Bool) → AreWrites writes old was mid now → IsFlushed flushes mid now new failed → failed ≡ false → was ≡ false
unfailed writes flushes old mid new false now failed p q e = refl
unfailed writes flushes old mid new true now failed p q e =
    absurd (both_ways failed (flushed_failed flushes mid new now failed q (stays_failed writes old mid true now p refl)) e)

pub if_ok : {A E : Type 0} (answer : Result A E) (x : A) (P : A → Type 0) → answer ≡ Ok x → IfOk answer P → P x
if_ok answer x P is h = rw is at h

pub ends_as : (w : Wanted) (answer : Result Bool AllocError) (end status : Status) (lines left : List FileLine) (report : List ℕ) (old new : Option (List ℕ))
    → end ≡ end_of answer → Ends end report old new status
    → (is_write_failure status ≡ false → (refused : Bool) → answer ≡ Ok refused → (left ≡ []) × (refused ≡ any_refused w lines))
    → EndsAs status w lines left report old new
ends_as w answer end status lines left report old new e (inr (f, front)) whole = rw f front
ends_as w (Ok true) end status lines left report old new e (inl (s, all)) whole =
    let is : status ≡ No = s ∙ e in
    let (none, some) = whole (ap is_write_failure is) true refl in rw is (none, sym some, all)
ends_as w (Ok false) end status lines left report old new e (inl (s, all)) whole =
    let is : status ≡ Done = s ∙ e in
    let (none, some) = whole (ap is_write_failure is) false refl in rw is (none, sym some, all)
ends_as w (Err why) end status lines left report old new e (inl (s, all)) whole =
    let is : status ≡ Unreadable = s ∙ e in rw is all
