use Rattle.std.proofs.Common.{◌≡◌, ◌∙◌, int_le, map, of_calls, rules, subst, sym, true}
use Rattle.std.proofs.lemmas.Fn.{always_returns_same}
use Rattle.jiff_tz.specs.Tzif.{no_transition}
use Rattle.jiff_tz.specs.TzifText.{is_ordered, transition_text}
use Rattle.jiff_tz.proofs.TzifLemmas.{le_below, prefix_from_point, seconds_rise}
use Rattle.cron_clocks.specs.Tables.{transitions_of}
use Rattle.cron_instants.proofs.TablePeriods.{counted}
use Rattle.cron_instants.proofs.periods.transitions_by.Goals as goal

pub returns-clause-value : goal.returns-clause-value
returns-clause-value c =
    let z = c.args.table.now in
    let transitions = c.transitions.result.now in
    let same : map transition_text transitions ≡ transitions_of z = c.transitions.ensures in
    let ordered : is_ordered z.first.offset.seconds (map transition_text transitions) ≡ true =
    subst (λ l. is_ordered z.first.offset.seconds l ≡ true) (sym same) z.ordered in
    let point = c.partition_point.ensures.partitioned (λ t. int_le t.second c.args.at)
    (always_returns_same _ _ _ (λ a r f k. search (rules, of_calls)))
    (λ i j d l m up. le_below _ _ _ (seconds_rise z.first.offset.seconds transitions d ordered i j l m) up) in
    sym (prefix_from_point (λ t. int_le t.second c.args.at) transitions c.partition_point.result (no_transition z) c.partition_point.ensures.bound point)
    ∙ counted z c.args.at transitions same
