use Rattle.std.proofs.Common.{◌++◌, ◌∷◌, ◌+◌, [], length, length-append, map, refl, sym, ap, ◌∙◌, subst}
use Rattle.std.specs.Prelude.{Err, Ok}
use Rattle.std.proofs.lemmas.Option.{slice_get_past, slice_get_read}
use Rattle.jiff.specs.Words.{plain_zone}
use Rattle.cron_checking.proofs.Putting.{put_on}
use Rattle.cron_tab_agenda.specs.Listing.{TakesTab}
use Rattle.cron_tab_agenda.proofs.TakenLemmas.{taken-on}
use Rattle.cron_writer.proofs.Sending.{both_ways}
use Rattle.cron_tab_answers.specs.TabRows.{IsRow, StopsBy, wanted}
use Rattle.cron_tab_answers.proofs.TabLemmas.{row_on, stops_at}
use Rattle.cron_tab_answers.proofs.tabs.gather_tabs.Goals as goal

pub returns-then-has_failed : goal.returns-then-has_failed
returns-then-has_failed g c =
    let zones = map plain_zone c.args.zones.now in
    let (fires, report, count, taken, rows, puts) = c.loop.invariant in
    let takes = subst (λ next. TakesTab zones c.args.until.nanosecond c.loop.agenda (Ok next) c.next_fire.new.agenda) c.in-Some.is c.in-Ok.ensures in
    let lookup = c.in-Some-get.ensures.lookup in
    let found = slice_get_read c.args.sources.now (length c.args.sources.now) c.in-Some.fire.id c.in-Some-get.source.now refl lookup.3.0 lookup.1 in
    record {
      fires = fires ++ c.in-Some.fire ∷ [];
      left = c.next_fire.new.agenda;
      taken = taken-on zones c.args.until.nanosecond fires c.args.agenda.now c.loop.agenda c.in-Some.fire c.next_fire.new.agenda taken takes;
      report = report ++ c.as_slice.result.now;
      rows = row_on c.args.style.now c.args.sources.now fires c.in-Some-get.source.now c.in-Some.fire report c.as_slice.result.now rows found
          (subst (λ row. IsRow c.args.style.now c.in-Some-get.source.now c.in-Some.fire row) (sym c.as_slice.ensures.value) c.in-Ok-make_row.ensures.ok);
      puts = put_on _ _ _ _ _ _ _ _ report _ puts c.put.ensures;
      whole = λ fine. absurd (both_ways _ (sym c.has_failed.ensures ∙ c.if-has_failed.true) fine);
    }

pub loop-preserved : goal.loop-preserved
loop-preserved g c =
    let zones = map plain_zone c.args.zones.now in
    let (fires, report, count, taken, rows, puts) = c.loop.invariant in
    let takes = subst (λ next. TakesTab zones c.args.until.nanosecond c.loop.agenda (Ok next) c.next_fire.new.agenda) c.in-Some.is c.in-Ok.ensures in
    let lookup = c.in-Some-get.ensures.lookup in
    let found = slice_get_read c.args.sources.now (length c.args.sources.now) c.in-Some.fire.id c.in-Some-get.source.now refl lookup.3.0 lookup.1 in (
      fires ++ c.in-Some.fire ∷ [],
      report ++ c.as_slice.result.now,
      length-append fires (c.in-Some.fire ∷ []) ∙ ap (λ n. n + 1) count,
      taken-on zones c.args.until.nanosecond fires c.args.agenda.now c.loop.agenda c.in-Some.fire c.next_fire.new.agenda taken takes,
      row_on c.args.style.now c.args.sources.now fires c.in-Some-get.source.now c.in-Some.fire report c.as_slice.result.now rows found
          (subst (λ row. IsRow c.args.style.now c.in-Some-get.source.now c.in-Some.fire row) (sym c.as_slice.ensures.value) c.in-Ok-make_row.ensures.ok),
      put_on _ _ _ _ _ _ _ _ report _ puts c.put.ensures,
    )

-- the zone of what comes first isn't lent
pub returns-in-Err : goal.returns-in-Err
returns-in-Err g c =
    let (fires, report, count, taken, rows, puts) = c.loop.invariant in
    let missing = c.in-Err.ensures in
    record {
      fires = fires;
      left = c.loop.agenda;
      taken = taken;
      report = report;
      rows = rows;
      puts = puts;
      whole = λ fine. (rw count c.loop-test.true, (missing.0, missing.1, refl));
    }

-- nor its source
pub returns-in_default-get : goal.returns-in_default-get
returns-in_default-get g c =
    let zones = map plain_zone c.args.zones.now in
    let (fires, report, count, taken, rows, puts) = c.loop.invariant in
    let takes = subst (λ next. TakesTab zones c.args.until.nanosecond c.loop.agenda (Ok next) c.next_fire.new.agenda) c.in-Some.is c.in-Ok.ensures in
    let none = slice_get_past c.args.sources.now c.in-Some.fire.id c.in_default-get.ensures.lookup.3 in
    record {
      fires = fires;
      left = c.loop.agenda;
      taken = taken;
      report = report;
      rows = rows;
      puts = puts;
      whole = λ fine. (rw count c.loop-test.true, (c.in-Some.fire, c.next_fire.new.agenda, takes, none));
    }

-- nor can its row be made
pub returns-in-Err-make_row : goal.returns-in-Err-make_row
returns-in-Err-make_row g c =
    let zones = map plain_zone c.args.zones.now in
    let (fires, report, count, taken, rows, puts) = c.loop.invariant in
    let takes = subst (λ next. TakesTab zones c.args.until.nanosecond c.loop.agenda (Ok next) c.next_fire.new.agenda) c.in-Some.is c.in-Ok.ensures in
    let w = wanted zones c.args.until.nanosecond c.args.limit c.args.sources.now c.args.style.now.times in
    record {
      fires = fires;
      left = c.loop.agenda;
      taken = taken;
      report = report;
      rows = rows;
      puts = puts;
      whole = λ fine.
          subst (λ fault. StopsBy w (length fires) (Err fault) c.loop.agenda) (sym c.fault_of.ensures)
          (stops_at w (length fires) c.loop.agenda c.next_fire.new.agenda c.in-Some.fire c.in-Err-make_row.error (rw count c.loop-test.true) takes
          c.in-Err-make_row.ensures.err);
    }
