-- The words of public contracts, in one place for callers: what a schedule, a walk and a search are, and what texts mean.
pub use Rattle.cron_units.specs.Units.{TimeUnit, FieldSet, unmarked, without_last_day, IsSet, contains, whole, seconds, minutes, hours, days_of_month, months, days_of_week, years}
pub use Rattle.cron_units.specs.Bounds.{IsForward, is_within}
pub use Rattle.cron_units.specs.Sets.{Sets, AreSets, IsFilled, IsFilledOrMarked}
pub use Rattle.cron_units.specs.Texts.{Tells, IsMemory, error_text}
pub use Rattle.cron_units.specs.declared.way.Way.{Way}
pub use Rattle.cron_units.specs.declared.way.Way.TheVariants.{Ahead, Back}
pub use Rattle.cron_text.specs.Meaning.{Means, MeansBy, MeansNothing, IsLonghand, IsShorthand}
pub use Rattle.cron_text.specs.Fault.{IsFault, IsRefusal, syntax_text}
pub use Rattle.cron_time.specs.Matches.{matches, matches_date, matches_time, is_candidate, matches_day_of_month, has_day}
pub use Rattle.cron_moments.specs.Civil.{civil, days_in_range, seconds_in_range}
pub use Rattle.cron_moments.specs.CivilDates.{date_numbered}
pub use Rattle.cron_moments.specs.Readings.{Reading, instant, reading, readings}
pub use Rattle.cron_time.specs.Seconds.{Seconds, numbers_below}
pub use Rattle.cron_time.specs.Timeline.{seconds_of, timeline}
pub use Rattle.cron_time.specs.Walk.Bounds.{bound_ahead, bound_back}
pub use Rattle.cron_time.specs.Walk.Cursor.{Cursor, Start, Place, Ended, Step, Walk, Steps, Run, step_on, run_on, go_to, item_at}
pub use Rattle.cron_time.specs.Walk.Ways.{opposite, target}
pub use Rattle.cron_time.specs.Walk.Rest.{Gives, items_from, rest, rest_on, rest_ahead, rest_back}
pub use Rattle.cron_time.specs.Search.{IsFound, stands}
pub use Rattle.cron_moments.specs.Found.{found_items, second_of}
pub use Rattle.cron_time.specs.Search.Counts.{conversions, days_of, candidates, gap_matches}
pub use Rattle.cron_time.specs.Search.Surveys.{standing_from, surveyed, surveyed_days, days_again}
pub use Rattle.cron_time.specs.Search.Times.{TimeOfDay, times_of_day, time_of_parts, IsNearestTime}
pub use Rattle.cron_moments.specs.MomentText.{moment_text}
pub use Rattle.cron_text.specs.TextLaws.{IsInGrammar, MeansOnce, MeansSets, LongestFrontsAgree, HasOneFault, MeantEarlier, KeepsItsMeaning}
pub use Rattle.cron_time.specs.Walk.Laws.{RunsAreJoined, EndIsForEver, NeighboursAreAnswered, SecondsNeverDecrease, SecondsStandTwiceAtMost, ItemsMatch, ItemsStandOnce}
pub use Rattle.cron_time.specs.Walk.FixedLaws.{Shows, IsAfter, IsLeastAfter, offset_of, IsReadOnce, HasOneOffset, FixedZonesHaveOneOffset, PlainRulesHaveOneOffset, FirstIsLeast, NextIsLater}
pub use Rattle.cron.specs.Instants.{IsLeastIfAny, IsNextIfAny, AreFirstTwo}
pub use Rattle.cron_time.specs.Walk.Resume.{IsAbsent, IsAtItem, IsResumed}
pub use Rattle.cron_moments.specs.Parts.{HasParts}
pub use Rattle.cron.specs.Resumed.{followed_by, CutRunsAreResumed, ItemsAreInRange}
