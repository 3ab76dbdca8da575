-- Words that are passed over, and bytes that are text.
use Rattle.std.proofs.Common.{◌≡◌, ℕ, zero, suc, ◌+◌, ◌-◌, ◌<◌, true, List, [], ◌∷◌, refl, arith}
use Rattle.std.specs.Prelude.{slice_index}
use Rattle.std.specs.List.{list_all}
use Rattle.cron_tab_lines.specs.Bytes.{behind, is_blank, no_blank, is_plain}
use Rattle.cron_tab_lines.specs.Entries.{behind_words}

-- one word less
pub word-less : (count done : ℕ) (text : List ℕ) → done < count
    → behind_words (count - done) text ≡ behind_words (count - (done + 1)) (behind is_blank (behind no_blank text))
word-less count done text lt = let one : count - done ≡ suc (count - (done + 1)) = omega arith in rw one refl

plain-low : (c : ℕ) → is_plain c ≡ true → c < 128
plain-low c is = grind arith

-- bytes that fields may have are text
pub plain-ascii : (text : List ℕ) → list_all is_plain text ≡ true → (i : ℕ) → slice_index text i < 128
plain-ascii [] all i = omega arith
plain-ascii (c ∷ cs) all zero = plain-low c (grind arith)
plain-ascii (c ∷ cs) all (suc i) = plain-ascii cs (grind arith) i
