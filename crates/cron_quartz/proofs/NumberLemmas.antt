-- Digits at the front of others.
use Rattle.std.proofs.Common.{◌≡◌, ℕ, zero, suc, ◌<◌, ◌≤◌, true, List, [], ◌∷◌, length, take, refl, arith}
use Rattle.std.specs.Char.{is_ascii_digit}
use Rattle.std.specs.List.{list_all}
use Rattle.std.specs.Str.Parse.{digits_value}
use Rattle.cron_crontab.proofs.NumberLemmas.{few_before}

all_before : (text : List ℕ) (i : ℕ) → list_all is_ascii_digit text ≡ true → list_all is_ascii_digit (take i text) ≡ true
all_before text zero all = refl
all_before [] (suc i) all = refl
all_before (c ∷ cs) (suc i) all = let rest = all_before cs i (grind arith) in grind arith

-- eight digits spell less than 10^8
pub small_before : (text : List ℕ) (i : ℕ) → list_all is_ascii_digit text ≡ true → i < length text → length text ≤ 9 → digits_value 10 (take i text) < 100000000
small_before text i all lt few = few_before text i (all_before text i all) (omega arith) (omega arith)
