-- Names are told apart.
use Rattle.std.proofs.Common.{◌%◌, ◌-◌, cond, subst, inl, inr, append_assoc, Option, Some, ◌≡◌, ◌==◌, ◌+◌, ◌<◌, ◌≤◌, ◌^◌, ℕ, zero, suc, Bool, true, false, ◌&&◌, nat_le, nat_lt, List, [], ◌++◌, codes, get_or, refl, sym, ap, ◌∙◌, arith}
use Rattle.std.proofs.lemmas.Bool.{cases_lt}
use Rattle.std.proofs.lemmas.Fmt.{decimal_injective}
use Rattle.std.specs.Fmt.{decimal}
use Rattle.std.specs.Option.{option_map_or}
use Rattle.cron_text.specs.Tokens.{is_digit}
use Rattle.cron_units.specs.Units.{ordinal_of}
use Rattle.cron_units.specs.Units as units
use Rattle.std.specs.List.{list_all}
use Rattle.cron_words.specs.Lists.{month_text, name_text, ordinal_end, weekday_text}
use Rattle.cron_words.specs.declared.lists.Naming.{Naming}
use Rattle.cron_words.specs.declared.lists.Naming.TheVariants.{Numbers, Ordinals, Weekdays, Months, Clocks}
use Rattle.cron_words.proofs.ClockLemmas.{Small, clock_first, clock_word, clocks_apart, none_behind}
use Rattle.cron_words.proofs.DigitLemmas.{all_append, cut, decimal_digits, decimal_first, digits_are_word, heads, is_word}

-- ---- bytes of names

abbrev pub is_capital : ℕ → Bool
is_capital c = nat_le 65 c && nat_le c 90

-- names begin with such a byte
abbrev pub begins : Naming → ℕ → Bool
begins Numbers c = is_digit c
begins Ordinals c = is_digit c
begins Weekdays c = is_capital c
begins Months c = is_capital c
begins (Clocks m s) c = is_digit c

-- numbers that have names
abbrev pub Fits : Naming → ℕ → Type 0
Fits Numbers n = n < 2 ^ 32
Fits Ordinals n = n < 2 ^ 32
Fits Weekdays n = (1 ≤ n) × (n ≤ 7)
Fits Months n = (1 ≤ n) × (n ≤ 12)
Fits (Clocks m s) n = Small n m s

-- a text of letters, digits and colons, that begins as the names do
pub record IsName (w : Naming) (t : List ℕ) : Type 0 where
  pub word : list_all is_word t ≡ true
  pub first : (r : List ℕ) → begins w (get_or (t ++ r) 0 0) ≡ true

seven : (P : ℕ → Type 0) → P 1 → P 2 → P 3 → P 4 → P 5 → P 6 → P 7 → (n : ℕ) → 1 ≤ n → n ≤ 7 → P n
seven P a b c d e f g zero l h = absurd (omega arith)
seven P a b c d e f g (suc zero) l h = a
seven P a b c d e f g (suc (suc zero)) l h = b
seven P a b c d e f g (suc (suc (suc zero))) l h = c
seven P a b c d e f g (suc (suc (suc (suc zero)))) l h = d
seven P a b c d e f g (suc (suc (suc (suc (suc zero))))) l h = e
seven P a b c d e f g (suc (suc (suc (suc (suc (suc zero)))))) l h = f
seven P a b c d e f g (suc (suc (suc (suc (suc (suc (suc zero))))))) l h = g
seven P a b c d e f g (suc (suc (suc (suc (suc (suc (suc (suc n)))))))) l h = absurd (omega arith)

abbrev KnownDay : ℕ → Type 0
KnownDay n = IsName Weekdays (weekday_text n) × (ordinal_of units.days_of_week (weekday_text n) ≡ Some n)

known_day : (t : List ℕ) (n : ℕ) → list_all is_word t ≡ true → ((r : List ℕ) → is_capital (get_or (t ++ r) 0 0) ≡ true)
    → ordinal_of units.days_of_week t ≡ Some n → IsName Weekdays t × (ordinal_of units.days_of_week t ≡ Some n)
known_day t n w f o = (record { word = w; first = f }, o)

weekday_known : (n : ℕ) → 1 ≤ n → n ≤ 7 → KnownDay n
weekday_known n l h =
    seven KnownDay (known_day _ _ refl (λ r. refl) refl) (known_day _ _ refl (λ r. refl) refl) (known_day _ _ refl (λ r. refl) refl)
    (known_day _ _ refl (λ r. refl) refl) (known_day _ _ refl (λ r. refl) refl) (known_day _ _ refl (λ r. refl) refl) (known_day _ _ refl (λ r. refl) refl) n l h

abbrev KnownMonth : ℕ → Type 0
KnownMonth n = IsName Months (month_text n) × (ordinal_of units.months (month_text n) ≡ Some n)

known_month : (t : List ℕ) (n : ℕ) → list_all is_word t ≡ true → ((r : List ℕ) → is_capital (get_or (t ++ r) 0 0) ≡ true)
    → ordinal_of units.months t ≡ Some n → IsName Months t × (ordinal_of units.months t ≡ Some n)
known_month t n w f o = (record { word = w; first = f }, o)

early_month : (n : ℕ) → 1 ≤ n → n ≤ 7 → KnownMonth n
early_month n l h =
    seven KnownMonth (known_month _ _ refl (λ r. refl) refl) (known_month _ _ refl (λ r. refl) refl) (known_month _ _ refl (λ r. refl) refl)
    (known_month _ _ refl (λ r. refl) refl) (known_month _ _ refl (λ r. refl) refl) (known_month _ _ refl (λ r. refl) refl)
    (known_month _ _ refl (λ r. refl) refl) n l h

late_month : (n : ℕ) → 6 ≤ n → n ≤ 12 → KnownMonth n
late_month n l h =
    subst KnownMonth (omega arith)
    (seven (λ k. KnownMonth (k + 5)) (known_month _ _ refl (λ r. refl) refl) (known_month _ _ refl (λ r. refl) refl) (known_month _ _ refl (λ r. refl) refl)
    (known_month _ _ refl (λ r. refl) refl) (known_month _ _ refl (λ r. refl) refl) (known_month _ _ refl (λ r. refl) refl)
    (known_month _ _ refl (λ r. refl) refl) (n - 5) (omega arith) (omega arith))

month_known : (n : ℕ) → 1 ≤ n → n ≤ 12 → KnownMonth n
month_known n l h = elim (cases_lt n 7) [ inl low ↦ early_month n l (omega arith) | inr high ↦ late_month n (omega arith) h ]

-- what stands behind an ordinal number
end_is : (P : List ℕ → Type 0) → P (codes "th") → P (codes "st") → P (codes "nd") → P (codes "rd") → (n : ℕ) → P (ordinal_end n)
end_is P th st nd rd n = by_test (nat_lt 10 n && nat_lt n 20) (n % 10 == 1) (n % 10 == 2) (n % 10 == 3) where
  by_test : (teen one two three : Bool)
      → P (cond teen (codes "th") (cond one (codes "st") (cond two (codes "nd") (cond three (codes "rd") (codes "th")))))
  by_test true one two three = th
  by_test false true two three = st
  by_test false false true three = nd
  by_test false false false true = rd
  by_test false false false false = th

pub name_is : (w : Naming) (n : ℕ) → Fits w n → IsName w (name_text w n)
name_is Numbers n f = record { word = digits_are_word (decimal n) (decimal_digits n f); first = λ r. decimal_first n r f }
name_is Ordinals n f =
    record {
      word = all_append is_word (decimal n) (ordinal_end n) (digits_are_word (decimal n) (decimal_digits n f))
          (end_is (λ t. list_all is_word t ≡ true) refl refl refl refl n);
      first = λ r. ap (λ (t : List ℕ). is_digit (get_or t 0 0)) (append_assoc (decimal n) (ordinal_end n) r) ∙ decimal_first n (ordinal_end n ++ r) f;
    }
name_is Weekdays n f = (weekday_known n f.0 f.1).0
name_is Months n f = (month_known n f.0 f.1).0
name_is (Clocks m s) n f = record { word = clock_word n m s f; first = λ r. clock_first n m s r f.0 }

some_same : (n m : ℕ) → Some n ≡ Some m → n ≡ m
some_same n m e = ap (λ (o : Option ℕ). option_map_or (λ k. k) o 0) e

decimal_same : (n m : ℕ) → n < 2 ^ 32 → m < 2 ^ 32 → decimal n ≡ decimal m → n ≡ m
decimal_same n m f g e = decimal_injective n m (omega arith) (omega arith) e

pub name_same : (w : Naming) (n m : ℕ) → Fits w n → Fits w m → name_text w n ≡ name_text w m → n ≡ m
name_same Numbers n m f g e = decimal_same n m f g e
name_same Ordinals n m f g e =
    decimal_same n m f g (cut is_digit (decimal n) (decimal m) (ordinal_end n) (ordinal_end m) (decimal_digits n f) (decimal_digits m g)
    (end_is (λ t. heads is_digit t ≡ false) refl refl refl refl n) (end_is (λ t. heads is_digit t ≡ false) refl refl refl refl m) e).0
name_same Weekdays n m f g e = some_same n m (sym (weekday_known n f.0 f.1).1 ∙ (ap (ordinal_of units.days_of_week) e ∙ (weekday_known m g.0 g.1).1))
name_same Months n m f g e = some_same n m (sym (month_known n f.0 f.1).1 ∙ (ap (ordinal_of units.months) e ∙ (month_known m g.0 g.1).1))
name_same (Clocks m s) n k f g e =
    (clocks_apart n m s k m s [] [] f g none_behind none_behind (ap (λ (t : List ℕ). t ++ []) e)).0.0
