-- Why an item is refused, and with which message: each line of a table is a row.
use Rattle.std.specs.Prelude.{◌≡◌, ◌<◌, ◌≤◌, ℕ, false, ◌⊎◌, List, ◌∷◌, ◌++◌, Option, Some, None, codes}
use Rattle.std.specs.Fmt.{decimal}
use Rattle.std.specs.List.{All}
use Rattle.cron_units.specs.Items.{Base, single, number_range, name_range, Item, plain, stepped, name}
use Rattle.cron_units.specs.Units.{TimeUnit, Names, ordinal_of, means_last_day}

pub data Refusal : Type 0 where
  unknown_name : List ℕ → Refusal
  too_small : ℕ → Refusal
  too_large : ℕ → Refusal
  bad_range : ℕ → ℕ → Refusal
  bad_name_range : List ℕ → List ℕ → Refusal
  zero_step : Refusal
  large_step : ℕ → Refusal

-- the number is no ordinal of the unit
abbrev pub IsOutside : TimeUnit → ℕ → Type 0
IsOutside u n = (n < u.least) ⊎ (u.greatest < n)

-- What a base is refused for. `*` and `?` never are. Of two unknown names the first is the reason.
pub data IsBaseRefusedFor (u : TimeUnit) : Base → Refusal → Type 0 where
  below : {n : ℕ} → n < u.least → IsBaseRefusedFor u (single n) (too_small n)
  above : {n : ℕ} → u.greatest < n → IsBaseRefusedFor u (single n) (too_large n)
  no_range : {a b : ℕ} → IsOutside u a ⊎ IsOutside u b ⊎ (b < a) → IsBaseRefusedFor u (number_range a b) (bad_range a b)
  first_unknown : {v w : List ℕ} → ordinal_of u v ≡ None → IsBaseRefusedFor u (name_range v w) (unknown_name v)
  second_unknown : {v w : List ℕ} {a : ℕ} → ordinal_of u v ≡ Some a → ordinal_of u w ≡ None → IsBaseRefusedFor u (name_range v w) (unknown_name w)
  turned : {v w : List ℕ} {a b : ℕ} → ordinal_of u v ≡ Some a → ordinal_of u w ≡ Some b → b < a
      → IsBaseRefusedFor u (name_range v w) (bad_name_range v w)

-- What an item is refused for. A base with a step is refused for the base only where the step is allowed.
pub data IsRefusedFor (u : TimeUnit) : Item → Refusal → Type 0 where
  by_base : {b : Base} {r : Refusal} → IsBaseRefusedFor u b r → IsRefusedFor u (plain b) r
  by_zero : {b : Base} {n : ℕ} → n ≡ 0 → IsRefusedFor u (stepped b n) zero_step
  by_step : {b : Base} {n : ℕ} → u.greatest < n → IsRefusedFor u (stepped b n) (large_step n)
  by_stepped : {b : Base} {n : ℕ} {r : Refusal} → 0 < n → n ≤ u.greatest → IsBaseRefusedFor u b r → IsRefusedFor u (stepped b n) r
  unknown : {w : List ℕ} → means_last_day u w ≡ false → ordinal_of u w ≡ None → IsRefusedFor u (name w) (unknown_name w)

-- the item is refused for nothing
abbrev pub IsUnrefused : TimeUnit → Item → Type 0
IsUnrefused u item = (r : Refusal) → IsRefusedFor u item r → ⊥

-- the first of these items that is refused is refused for r
pub record IsFirstRefusal (u : TimeUnit) (items : List Item) (r : Refusal) : Type 0 where
  pub before : List Item
  pub item : Item
  pub after : List Item
  pub cut : items ≡ before ++ item ∷ after
  pub unrefused : All (IsUnrefused u) before
  pub refused : IsRefusedFor u item r

abbrev pub unknown_text : TimeUnit → List ℕ → Option Names → List ℕ
unknown_text u word None =
    codes "The '" ++ (u.title ++ (codes "' field does not support using names. '" ++ (word ++ codes "' specified.")))
unknown_text u word (Some names) = codes "'" ++ (word ++ (codes "' is not a valid " ++ (names.noun ++ codes ".")))

-- the message about a refusal
abbrev pub message : TimeUnit → Refusal → List ℕ
message u (unknown_name word) = unknown_text u word u.names
message u (too_small n) =
    u.title ++ (codes " must be greater than or equal to " ++ (decimal u.least ++ (codes ". ('" ++ (decimal n ++ codes "' specified.)"))))
message u (too_large n) =
    u.title ++ (codes " must be less than " ++ (decimal u.greatest ++ (codes ". ('" ++ (decimal n ++ codes "' specified.)"))))
message u (bad_range a b) = codes "Invalid range for " ++ (u.title ++ (codes ": " ++ (decimal a ++ (codes "-" ++ decimal b))))
message u (bad_name_range v w) = codes "Invalid named range for " ++ (u.title ++ (codes ": " ++ (v ++ (codes "-" ++ w))))
message u zero_step = codes "range step cannot be zero"
message u (large_step n) =
    u.title ++ (codes " must be between 1 and " ++ (decimal u.greatest ++ (codes ". ('" ++ (decimal n ++ codes "' specified.)"))))
