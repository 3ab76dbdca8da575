use Rattle.cron.proofs.schedule.walk.Walker.begin.Goals as goal

pub invariant_of-result : goal.invariant_of-result
invariant_of-result g c =
    (rw c.starting.ensures.stand tt, c.starting.ensures.known (g.C.Inputs.sets c.args.inputs) (g.C.Inputs.zone c.args.inputs))
