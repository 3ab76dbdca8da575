use Rattle.std.proofs.Common.{◌≡◌, Result, Ok, Err, refl}
use Rattle.std.specs.Result.{IfOk}
use Rattle.cron_units.specs.declared.error.Error.{Error}
use Rattle.cron.specs.Plan.{Plan}
use Rattle.cron.proofs.ReadLemmas.{read_sets, read_refused}
use Rattle.cron.proofs.laws.read_again.Goals as goal

same_plan : (s p : Plan) → s.source ≡ p.source → s.sets ≡ p.sets → s ≡ p
same_plan s p e d = let h : record { source = s.source; sets = s.sets } ≡ record { source = p.source; sets = p.sets } = rw (e, d) refl in h

read_same : (r : Result Plan Error) (p : Plan) → IfOk r (λ s. s.sets ≡ p.sets) → IfOk r (λ s. s.source ≡ p.source) → IfOk r (λ s. s ≡ p)
read_same (Ok s) p d e = same_plan s p e d
read_same (Err e) p d h = tt

pub returns-clause-same : goal.returns-clause-same
returns-clause-same c =
    let p = c.args.schedule.now in
    let sets = read_sets p.source p.sets c.from_str.result c.source.ensures.means (rw c.source.ensures.text at c.from_str.ensures.means) in
    read_same c.from_str.result p sets (rw c.source.ensures.text at c.from_str.ensures.source)

pub returns-clause-refused : goal.returns-clause-refused
returns-clause-refused c =
    let p = c.args.schedule.now in
    read_refused p.source p.sets c.from_str.result c.source.ensures.means (rw c.source.ensures.text at c.from_str.ensures.refused)
