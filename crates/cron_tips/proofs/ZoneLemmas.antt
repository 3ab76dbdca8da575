-- What is left of a list of names, and the last parts of names.
use Rattle.std.proofs.Common.{◌≡◌, ◌<◌, ◌∙◌, ℕ, ◌+◌, List, [], ◌∷◌, length, ap, arith, refl, sym}
use Rattle.std.specs.Prelude.{Option, Some, None}
use Rattle.std.specs.Borrow.{Bor}
use Rattle.std.proofs.lemmas.List.Splits.{join_with_byte-slice_split, length-slice_split}
use Rattle.std.specs.List.{join_with_byte}
use Rattle.std.specs.Prelude.{◌==◌}
use Rattle.cron_crontab.specs.Items.{pieces}
use Rattle.cron_tips.specs.ZoneNames.{last_of, last_part, names_in}

abbrev pub names_left : Option (Bor (List ℕ)) → List (List ℕ)
names_left None = []
names_left (Some text) = names_in text.now

abbrev pub length_left : Option (Bor (List ℕ)) → ℕ
length_left None = 0
length_left (Some text) = length text.now + 1

some_last : (a b : List ℕ) (texts : List (List ℕ)) → 0 < length texts → last_of a texts ≡ last_of b texts
some_last a b [] lt = absurd (omega (arith, lt))
some_last a b (text ∷ texts) lt = refl

-- a name has the last part of what stands behind its first slash
pub part_kept : (name first behind : List ℕ) → pieces 47 name ≡ first ∷ pieces 47 behind → last_part behind ≡ last_part name
part_kept name first behind is =
    some_last [] first (pieces 47 behind) (omega (arith, length-slice_split (λ b. b == 47) behind)) ∙ sym (ap (last_of []) is)

-- a name without a slash is its own last part
pub part_alone : (name first : List ℕ) → pieces 47 name ≡ first ∷ [] → last_part name ≡ name
part_alone name first is =
    ap (last_of []) is ∙ sym (ap (join_with_byte 47) is) ∙ join_with_byte-slice_split 47 name
