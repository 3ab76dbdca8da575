-- The lemmas that a caller may cite.
pub use Rattle.cron_time.proofs.Walks.RestLemmas.{YieldsList-from_walk}
pub use Rattle.cron_units.proofs.SetLemmas.{contains_before, contains_after}
pub use Rattle.cron_units.specs.Laws.{is_unit-seconds, is_unit-minutes, is_unit-hours, is_unit-days_of_month, is_unit-months, is_unit-days_of_week, is_unit-years}
pub use Rattle.cron_units.proofs.DenotedSets.{denotes_union}
unfoldable pub use Rattle.cron.proofs.OnLiterals.{cron_on_literals}
pub use Rattle.cron.proofs.ReadLemmas.{read_sets, read_refused}
pub use Rattle.cron.proofs.RunLemmas.{walk_is}
pub use Rattle.cron_units.specs.Items.{Base, every, question_mark, single, number_range, name_range, Item, plain, stepped, name}
pub use Rattle.cron_text.specs.Tokens.{Token, tokens}
