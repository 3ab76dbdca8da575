-- What items denote: which ordinals lie in an item. Each line of a definition is a row of a table.
use Rattle.std.specs.Prelude.{◌≡◌, ◌≤◌, ◌+◌, ◌*◌, ◌↔◌, ℕ, true, false, ◌⊎◌, List, Some}
use Rattle.std.specs.List.{All, Any}
use Rattle.cron_units.specs.Items.{Base, every, question_mark, single, number_range, name_range, Item, plain, stepped, name}
use Rattle.cron_units.specs.Refusals.{IsUnrefused}
use Rattle.cron_units.specs.Units.{TimeUnit, FieldSet, contains, IsSet, ordinal_of, means_last_day}

-- x is one of the numbers from the first to the last
abbrev pub IsBetween : ℕ → ℕ → ℕ → Type 0
IsBetween first last x = (first ≤ x) × (x ≤ last)

-- x is one of the ordinals of a base: all of the unit, one number, or a range
abbrev pub LiesInBase : TimeUnit → Base → ℕ → Type 0
LiesInBase u every x = IsBetween u.least u.greatest x
LiesInBase u question_mark x = IsBetween u.least u.greatest x
LiesInBase u (single n) x = x ≡ n
LiesInBase u (number_range a b) x = IsBetween a b x
LiesInBase u (name_range v w) x = (a : ℕ) × (b : ℕ) × (ordinal_of u v ≡ Some a) × (ordinal_of u w ≡ Some b) × IsBetween a b x

-- x is in the range that a step goes over: the base, or from a single number up to the greatest
-- ordinal
abbrev pub IsSteppedOver : TimeUnit → Base → ℕ → Type 0
IsSteppedOver u (single n) x = IsBetween n u.greatest x
IsSteppedOver u b x = LiesInBase u b x

-- `least` is the least number that has the property P
abbrev pub IsLeast : (ℕ → Type 0) → ℕ → Type 0
IsLeast P least = P least × ((x : ℕ) → P x → least ≤ x)

-- x is a whole number of steps after `from`
abbrev pub IsStepsAfter : ℕ → ℕ → ℕ → Type 0
IsStepsAfter step from x = (count : ℕ) × (x ≡ from + count * step)

-- x is one of the ordinals that an item denotes; steps are counted from the base's least ordinal
abbrev pub LiesIn : TimeUnit → Item → ℕ → Type 0
LiesIn u (plain b) x = LiesInBase u b x
LiesIn u (stepped b step) x = IsSteppedOver u b x × (least : ℕ) × IsLeast (LiesInBase u b) least × IsStepsAfter step least x
LiesIn u (name word) x = (means_last_day u word ≡ false) × (ordinal_of u word ≡ Some x)

-- the item is the unit's word for the last day of the month
abbrev pub MarksLastDay : TimeUnit → Item → Type 0
MarksLastDay u (name word) = means_last_day u word ≡ true
MarksLastDay u _ = ⊥

-- Items denote this set: none of them is refused, and its ordinals, in ascending order, are what lies in one of them. It has
-- the last day of the month if one of them marks it.
pub record Denotes (u : TimeUnit) (items : List Item) (s : FieldSet) : Type 0 where
  pub unrefused : All (IsUnrefused u) items
  pub is_set : IsSet u s.ordinals
  pub ordinals : (x : ℕ) → (contains s.ordinals x ≡ true) ↔ Any (λ item. LiesIn u item x) items
  pub mark : (s.last_day ≡ true) ↔ Any (MarksLastDay u) items

-- the item isn't refused, and what it denotes was joined to a set
pub record AddsItem (u : TimeUnit) (item : Item) (old new : FieldSet) : Type 0 where
  pub unrefused : IsUnrefused u item
  pub is_set : IsSet u new.ordinals
  pub ordinals : (x : ℕ) → (contains new.ordinals x ≡ true) ↔ ((contains old.ordinals x ≡ true) ⊎ LiesIn u item x)
  pub mark : (new.last_day ≡ true) ↔ ((old.last_day ≡ true) ⊎ MarksLastDay u item)
