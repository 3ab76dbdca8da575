-- Lines that are folded one behind another read back.
use Rattle.std.proofs.Common.{◌≡◌, ℕ, ◌+◌, false, List, [], ◌∷◌, ◌++◌, refl, sym, ap, ◌∙◌, append_assoc, append-nil, inl, inr}
use Rattle.std.proofs.lemmas.Bool.{cases_Bool}
use Rattle.cron_ics.proofs.UnfoldLaws.{plain_byte}
use Rattle.cron_ics.specs.Events.{folded_lines}
use Rattle.cron_ics.specs.Folding.{HasNoReturn, breaks, folded_from, is_blank, unfolded}
use Rattle.cron_ics.specs.Reading.{AreLines, IsLine, LinesReadBack, lines_from}

abbrev BeginsBare : List ℕ → Type 0
BeginsBare [] = Unit {0}
BeginsBare (b ∷ bs) = is_blank b ≡ false

ends : (rest : List ℕ) → BeginsBare rest → unfolded (13 ∷ 10 ∷ rest) ≡ 13 ∷ 10 ∷ unfolded rest
ends [] h = refl
ends (c ∷ rest) h = rw h (ap (λ l. 13 ∷ l) (plain_byte 10 (c ∷ rest) refl))

before : (line rest : List ℕ) (k : ℕ) → HasNoReturn line → BeginsBare rest
    → unfolded (folded_from k line ++ rest) ≡ line ++ 13 ∷ 10 ∷ unfolded rest
before [] rest k h bare = ends rest bare
before (b ∷ bs) rest k h bare =
    elim (cases_Bool (breaks k b)) [
      | inl it ↦ rw it (plain_byte b (folded_from 1 bs ++ rest) h.0 ∙ ap (λ l. b ∷ l) (before bs rest 1 h.1 bare))
      | inr other ↦ rw other (plain_byte b (folded_from (k + 1) bs ++ rest) h.0 ∙ ap (λ l. b ∷ l) (before bs rest (k + 1) h.1 bare))
    ]

taken : (front line rest : List ℕ) → HasNoReturn line → lines_from front (line ++ 13 ∷ 10 ∷ rest) ≡ (front ++ line) ∷ lines_from [] rest
taken front [] rest h = ap (λ l. l ∷ lines_from [] rest) (sym (append-nil front))
taken front (b ∷ []) rest h = rw h.0 refl
taken front (b ∷ c ∷ line) rest h =
    rw h.0 (taken (front ++ b ∷ []) (c ∷ line) rest h.1 ∙ ap (λ l. l ∷ lines_from [] rest) (append_assoc front (b ∷ []) (c ∷ line)))

begin : (lines : List (List ℕ)) → AreLines lines → BeginsBare (folded_lines lines)
begin [] h = tt
begin ([] ∷ lines) h = absurd h.0
begin ((b ∷ bs) ∷ lines) h = h.0.0

plain : (line : List ℕ) → IsLine line → HasNoReturn line
plain [] h = absurd h
plain (b ∷ bs) h = h.1

pub read_back : LinesReadBack
read_back [] h = refl
read_back (line ∷ lines) h =
    ap (lines_from []) (before line (folded_lines lines) 0 (plain line h.0) (begin lines h.1))
    ∙ (taken [] line (unfolded (folded_lines lines)) (plain line h.0) ∙ ap (λ l. line ∷ l) (read_back lines h.1))
