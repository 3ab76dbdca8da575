-- Items, by their pieces.
use Rattle.std.proofs.Common.{◌≡◌, ◌≤◌, ◌<◌, ◌==◌, ℕ, Bool, true, false, List, [], ◌∷◌, length, lit<, refl, arith}
use Rattle.std.specs.Prelude.{Ok, Err}
use Rattle.cron_units.specs.Steps.{in_steps}
use Rattle.cron_crontab.specs.Items.{Base, single, range, base_of, begins_with_star, between, by_step, item_of, number_of, pieces, step_of}
use Rattle.cron_crontab.specs.Refusals.{ignored, lone_step}
use Rattle.cron_crontab.specs.Inner.Reading.{AreBits, IsItemRead, IsNumber}
use Rattle.cron_crontab.specs.declared.field.Field.{Field}
use Rattle.cron_crontab.proofs.WordLemmas.{one_piece}
use Rattle.std.specs.Char.{is_ascii_alphanumeric}
use Rattle.std.specs.List.{list_all, position_or_len}
use Rattle.std.proofs.lemmas.Bool.{ne_eqb}

-- a text has a first piece
pub record HasPiece (ws : List (List ℕ)) : Type 0 where
  pub first : List ℕ
  pub more : List (List ℕ)
  pub is : ws ≡ first ∷ more

pub has_piece : (mark : ℕ) (text : List ℕ) → HasPiece (pieces mark text)
has_piece mark [] = record { first = []; more = []; is = refl }
has_piece mark (c ∷ cs) = by_test (c == mark) refl (has_piece mark cs)
  where
    by_test : (b : Bool) → (c == mark) ≡ b → HasPiece (pieces mark cs) → HasPiece (pieces mark (c ∷ cs))
    by_test true is rest = record { first = []; more = pieces mark cs; is = rw is refl }
    by_test false is rest = record { first = c ∷ rest.first; more = rest.more; is = rw (is, rest.is) refl }

-- a third number isn't read
pub third_number : (f : Field) (text first rest last more : List ℕ) (n m : ℕ) → pieces 45 text ≡ first ∷ pieces 45 rest → pieces 45 rest ≡ last ∷ pieces 45 more
    → number_of f first ≡ Ok n → number_of f last ≡ Ok m → between f (pieces 45 text) ≡ Err (ignored last)
third_number f text first rest last more n m cut behind is end = let other = has_piece 45 more in rw (cut, behind, other.is, is, end) refl

-- what is behind a base, and what that means
pub without_step : (f : Field) (text base : List ℕ) (b : Base) (bits : ℕ) → pieces 47 text ≡ base ∷ [] → base_of f base ≡ Ok b → AreBits f (in_steps (by_step b 1)) bits
    → IsItemRead f text bits
without_step f text base b bits cut is numbers = record { item = by_step b 1; is = rw (cut, is) refl; numbers = numbers }

pub with_lone_step : (f : Field) (text base rest : List ℕ) (n : ℕ) → pieces 47 text ≡ base ∷ pieces 47 rest → base_of f base ≡ Ok (single n)
    → item_of f text ≡ Err lone_step
with_lone_step f text base rest n cut is = let step = has_piece 47 rest in rw (cut, step.is, is) refl

pub with_two_steps : (f : Field) (text base rest step more : List ℕ) (n m s : ℕ) → pieces 47 text ≡ base ∷ pieces 47 rest → pieces 47 rest ≡ step ∷ pieces 47 more
    → base_of f base ≡ Ok (range n m) → step_of step ≡ Ok s → item_of f text ≡ Err (ignored step)
with_two_steps f text base rest step more n m s cut behind is steps = let other = has_piece 47 more in rw (cut, behind, other.is, is, steps) refl

pub with_step : (f : Field) (text base rest step : List ℕ) (n m s bits : ℕ) → pieces 47 text ≡ base ∷ pieces 47 rest → pieces 47 rest ≡ step ∷ []
    → base_of f base ≡ Ok (range n m) → step_of step ≡ Ok s → AreBits f (in_steps (by_step (range n m) s)) bits → IsItemRead f text bits
with_step f text base rest step n m s bits cut behind is steps numbers = record { item = by_step (range n m) s; is = rw (cut, behind, is, steps) refl; numbers = numbers }

-- ---- one number

graphic : (c : ℕ) → is_ascii_alphanumeric c ≡ true → 48 ≤ c
graphic c is = grind arith

no_mark : (mark : ℕ) (text : List ℕ) → mark < 48 → list_all is_ascii_alphanumeric text ≡ true → position_or_len (λ b. b == mark) text ≡ length text
no_mark mark [] low all = refl
no_mark mark (c ∷ cs) low all =
    let here = graphic c (grind arith) in
    let other : (c == mark) ≡ false = ne_eqb c mark (λ e. omega arith) in
    let rest = no_mark mark cs low (grind arith) in
    rw other (omega arith)

no_star : (text : List ℕ) → 0 < length text → list_all is_ascii_alphanumeric text ≡ true → begins_with_star text ≡ false
no_star [] some all = absurd (omega arith)
no_star (c ∷ cs) some all = let here = graphic c (grind arith) in ne_eqb c 42 (λ e. omega arith)

pub one_number : (f : Field) (text : List ℕ) (n bits : ℕ) → IsNumber f text n → AreBits f (in_steps (by_step (single n) 1)) bits → IsItemRead f text bits
one_number f text n bits is numbers = record {
  item = by_step (single n) 1;
  is = rw (one_piece 47 text (no_mark 47 text (lit< tt) is.word), no_star text is.some is.word, one_piece 45 text (no_mark 45 text (lit< tt) is.word), is.is) refl;
  numbers = numbers;
}
