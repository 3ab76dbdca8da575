-- What the reader's inner functions make of texts. No public contract cites these words.
use Rattle.std.specs.Prelude.{◌≡◌, ◌<◌, ◌≤◌, ℕ, List, ⊤}
use Rattle.cron_units.specs.Units.{TimeUnit, set_of}
use Rattle.cron_units.specs.Steps.{Progression}
use Rattle.cron_crontab.specs.Items.{pieces}
use Rattle.cron_quartz.specs.Items.{items_from, items_of, lies_in_one}
use Rattle.cron_quartz.specs.declared.items.Base.{Base}
use Rattle.cron_quartz.specs.declared.items.Base.TheVariants.{All, One, Range}
use Rattle.cron_quartz.specs.declared.items.Item.{Item}

-- n is a number of the unit
abbrev pub IsWithin : TimeUnit → ℕ → Type 0
IsWithin u n = (u.least ≤ n) × (n ≤ u.greatest)

abbrev pub IsBaseWithin : TimeUnit → Base → Type 0
IsBaseWithin u All = ⊤
IsBaseWithin u (One a) = IsWithin u a.number
IsBaseWithin u (Range a b) = IsWithin u a.number × IsWithin u b.number

-- the first and the last number are of the unit, and the step is 1 at least
abbrev pub IsItemWithin : TimeUnit → Item → Type 0
IsItemWithin u i = IsWithin u i.first × IsWithin u i.last × (0 < i.every)

-- the items of the field `word` before `rest` are read, and `numbers` are the numbers that lie in
-- them
pub record AreReadBefore (u : TimeUnit) (word rest numbers : List ℕ) : Type 0 where
  pub done : List Progression
  pub before : items_of u word ≡ items_from u done (pieces 44 rest)
  pub is : numbers ≡ set_of u (lies_in_one u done)
