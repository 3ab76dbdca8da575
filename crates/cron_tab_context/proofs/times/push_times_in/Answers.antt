use Rattle.std.proofs.Common.{◌≡◌, [], None, map, sym, ap, ◌∙◌, subst, append-nil, refl}
use Rattle.std.specs.Option.{option_map}
use Rattle.std.specs.Prelude.{Option}
use Rattle.std.proofs.lemmas.Option.{slice_get-map}
use Rattle.jiff.specs.Words.{plain_zone}
use Rattle.jiff_tz.specs.declared.timezone.TimeZone.{TimeZone}
use Rattle.cron_agenda.proofs.ListLemmas.{get_past}
use Rattle.cron_tab_lines.specs.Views.{file_line_view}
use Rattle.cron_tab_context.specs.Times.{AreTimesIn, zone_at}
use Rattle.cron_tab_context.proofs.times.push_times_in.Goals as goal

pub returns-in-None : goal.returns-in-None
returns-in-None c =
    let zones = c.args.zones.now in
    let number = c.in-Some.number in
    let line = file_line_view c.args.line.now in
    let t = c.args.start.nanosecond in
    let none : zone_at (map plain_zone zones) c.args.here ≡ None =
    ap (zone_at (map plain_zone zones)) c.in-Some.is ∙ (slice_get-map plain_zone zones number ∙ ap (option_map plain_zone) (get_past zones number c.in-None.ensures.lookup.3)) in
    ([], sym (append-nil c.args.found.now.items), subst (λ (z : Option TimeZone). AreTimesIn line z t []) (sym none) refl)
