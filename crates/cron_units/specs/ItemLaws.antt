-- Laws over what items denote.
use Rattle.std.specs.Prelude.{◌≡◌, ◌⊎◌, List, []}
use Rattle.cron_units.specs.Denotation.{Denotes}
use Rattle.cron_units.specs.Items.{Item}
use Rattle.cron_units.specs.Refusals.{Refusal, IsRefusedFor, IsUnrefused, IsFirstRefusal}
use Rattle.cron_units.specs.Sets.{IsFilledOrMarked}
use Rattle.cron_units.specs.Units.{TimeUnit, FieldSet, IsUnit}

-- the item is refused for exactly one reason
pub record IsRefusedOnce (u : TimeUnit) (item : Item) : Type 0 where
  pub refusal : Refusal
  pub refused : IsRefusedFor u item refusal
  pub only : (other : Refusal) → IsRefusedFor u item other → other ≡ refusal

-- Each item of a unit is refused for no reason, or for exactly one.
abbrev pub ItemsAreRefusedOnce : Type 0
ItemsAreRefusedOnce = (u : TimeUnit) (item : Item) → IsUnit u → IsUnrefused u item ⊎ IsRefusedOnce u item

-- the items denote this set and no other, and none of them is refused
pub record DenoteOnce (u : TimeUnit) (items : List Item) : Type 0 where
  pub set : FieldSet
  pub denotes : Denotes u items set
  pub only : (other : FieldSet) → Denotes u items other → other ≡ set
  pub filled : (items ≡ [] → ⊥) → IsFilledOrMarked u set
  pub unrefused : (r : Refusal) → IsFirstRefusal u items r → ⊥

-- one of the items is the first that is refused, and they denote nothing
pub record AreRefused (u : TimeUnit) (items : List Item) : Type 0 where
  pub refusal : Refusal
  pub first : IsFirstRefusal u items refusal
  pub only : (other : Refusal) → IsFirstRefusal u items other → other ≡ refusal
  pub nothing : (s : FieldSet) → Denotes u items s → ⊥

-- Items of a unit denote exactly one set, which isn't empty if there are items. Or else one of them
-- is the first that is refused; never both.
abbrev pub ItemsAreDecided : Type 0
ItemsAreDecided = (u : TimeUnit) (items : List Item) → IsUnit u → DenoteOnce u items ⊎ AreRefused u items
