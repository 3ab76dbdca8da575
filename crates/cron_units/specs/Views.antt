-- What contracts see of items and of what they denote.
use Rattle.cron_units.specs.Items as items
use Rattle.cron_units.specs.Items.{every, question_mark, single, number_range, name_range, plain, stepped, name}
use Rattle.cron_units.specs.Refusals as refusals
use Rattle.cron_units.specs.Steps as steps
use Rattle.cron_units.specs.Refusals.{unknown_name, too_small, too_large, bad_range, bad_name_range, zero_step, large_step}
use Rattle.cron_units.specs.declared.specifier.Base.{Base}
use Rattle.cron_units.specs.declared.specifier.Base.TheVariants.{Every, QuestionMark, Single, NumberRange, NameRange}
use Rattle.cron_units.specs.declared.specifier.Item.{Item}
use Rattle.cron_units.specs.declared.specifier.Item.TheVariants.{Plain, Stepped, Name}
use Rattle.cron_units.specs.declared.specifier.Refusal.{Refusal}
use Rattle.cron_units.specs.declared.specifier.Refusal.TheVariants.{UnknownName, TooSmall, TooLarge, BadRange, BadNameRange, ZeroStep, LargeStep}
use Rattle.cron_units.specs.declared.specifier.Progression.{Progression}

abbrev pub base_view : Base → items.Base
base_view Every = every
base_view QuestionMark = question_mark
base_view (Single n) = single n
base_view (NumberRange a b) = number_range a b
base_view (NameRange v w) = name_range v.now w.now

abbrev pub item_view : Item → items.Item
item_view (Plain b) = plain (base_view b)
item_view (Stepped b n) = stepped (base_view b) n
item_view (Name w) = name w.now

abbrev pub refusal_view : Refusal → refusals.Refusal
refusal_view (UnknownName w) = unknown_name w.now
refusal_view (TooSmall n) = too_small n
refusal_view (TooLarge n) = too_large n
refusal_view (BadRange a b) = bad_range a b
refusal_view (BadNameRange v w) = bad_name_range v.now w.now
refusal_view ZeroStep = zero_step
refusal_view (LargeStep n) = large_step n

abbrev pub steps_view : Progression → steps.Progression
steps_view s = record { first = s.first; last = s.last; every = s.every }
