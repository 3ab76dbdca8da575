use Rattle.std.proofs.Common.{[], ◌∷◌, ◌++◌, ◌+◌, ◌<◌, ◌≡◌, length, map, subst, ap, ◌∙◌, inl, length-append, append_assoc, arith}
use Rattle.std.specs.Prelude.{Ok}
use Rattle.jiff.specs.Words.{plain_zone}
use Rattle.cron_tab_agenda.specs.Inner.Pushes.{IsPushed}
use Rattle.cron_tab_agenda.proofs.TakenLemmas.{lists-error, lists-none, lists-so, taken-on}
use Rattle.cron_tab_agenda.proofs.listing.list_fires.Goals as goal

pub loop-preserved : goal.loop-preserved
loop-preserved c =
    let zones = map plain_zone c.args.zones.now in
    let was = c.loop.invariant in
    let pushed = subst (λ b. IsPushed zones c.args.until.nanosecond c.loop.agenda c.loop.fires.items (Ok b) c.push_next.new.fires.items c.push_next.new.agenda)
    c.in-Ok-true.field-0-test c.in-Ok-true.ensures.pushed in (
      was.0 ++ pushed.0 ∷ [],
      length-append was.0 (pushed.0 ∷ []) ∙ ap (λ n. n + 1) was.1,
      pushed.2 ∙ ap (λ l. l ++ pushed.0 ∷ []) was.2 ∙ append_assoc c.args.fires.now.items was.0 (pushed.0 ∷ []),
      taken-on zones c.args.until.nanosecond was.0 c.args.agenda.now c.loop.agenda pushed.0 c.push_next.new.agenda was.3 pushed.1,
    )

pub returns-in-Ok-false-clause-lists : goal.returns-in-Ok-false-clause-lists
returns-in-Ok-false-clause-lists c =
    let zones = map plain_zone c.args.zones.now in
    let was = c.loop.invariant in
    let pushed = subst (λ b. IsPushed zones c.args.until.nanosecond c.loop.agenda c.loop.fires.items (Ok b) c.push_next.new.fires.items c.push_next.new.agenda)
    c.in-Ok-false.field-0-test c.in-Ok-false.ensures.pushed in
    lists-none zones c.args.until.nanosecond c.args.limit c.args.agenda.now c.args.fires.now.items was.0 c.loop.agenda c.loop.fires.items
    c.push_next.new.fires.items c.push_next.new.agenda was.2 was.3 pushed (tt {0})

pub returns-in-Err-clause-lists : goal.returns-in-Err-clause-lists
returns-in-Err-clause-lists c =
    let was = c.loop.invariant in
    let less : length was.0 < c.args.limit = omega (arith, was.1, c.loop-test.true) in
    lists-error (map plain_zone c.args.zones.now) c.args.until.nanosecond c.args.limit c.args.agenda.now c.args.fires.now.items was.0 c.loop.agenda
    c.loop.fires.items c.push_next.new.fires.items c.push_next.new.agenda was.2 was.3 c.in-Err.error less c.in-Err.ensures.pushed

pub returns-clause-lists : goal.returns-clause-lists
returns-clause-lists c =
    let was = c.loop.invariant in
    let all : length was.0 ≡ c.args.limit = omega (arith, was.1, c.loop-test.false, c.loop.auto.counter-end) in
    lists-so (map plain_zone c.args.zones.now) c.args.until.nanosecond c.args.limit c.args.agenda.now c.args.fires.now.items was.0 (Ok (tt {0}))
    c.loop.fires.items c.loop.agenda was.2 was.3 (inl all)
