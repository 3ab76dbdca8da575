use Rattle.jiff.specs.Words.{plain_zone}
use Rattle.cron_time.specs.Walk.Inner.Placed.{cursor_of, stand_of}
use Rattle.cron_c.specs.Structs.{sets_of}
use Rattle.cron_c.proofs.Items.{resumed_answer}
use Rattle.cron_c.proofs.searching.beside.Goals as goal

pub returns-in-Some : goal.returns-in-Some
returns-in-Some c =
    let zone = plain_zone c.args.zone.now in
    resumed_answer c.args.way (sets_of c.args.schedule.now) c.fields_of-fields.result zone c.args.item.now
    (cursor_of c.fields_of-fields.result zone (stand_of c.in-Some.given)) (stand_of c.step.new.state) c.answer.result
    c.fields_of-fields.ensures c.in-Some.ensures.2 c.step.ensures.leads c.answer.ensures
