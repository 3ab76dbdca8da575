use Rattle.cron_time.specs.Walk.Inner.Placed.{stand_of}
use Rattle.cron_time.proofs.Walks.RestLemmas.{gives}
use Rattle.cron.proofs.schedule.walk.Walker.step.Goals as goal

pub returns : goal.returns
returns g c =
    let stop = rw (c.fields.ensures, c.zone.ensures) at c.step.ensures.leads in
    gives c.args.way (g.C.Inputs.sets c.self.inside.inputs) (g.C.Inputs.zone c.self.inside.inputs) (stand_of c.self.inside.state)
    (stand_of c.step.new.state) c.args.self.now c.answer.result c.self.invariant.0 c.self.view_is stop c.answer.ensures
