use Rattle.std.proofs.Common.{◌≡◌, ◌-◌, arith, rules, refl}
use Rattle.std.proofs.lemmas.Grind.{common_steps}
use Rattle.cron_tab_running.specs.Noted.{left_of}
use Rattle.cron_tab_running.proofs.CountLemmas.{taken, written}
use Rattle.cron_tab_running.proofs.noted.take_one.Goals as goal

pub returns-then-count-eq0-clause-now : goal.returns-then-count-eq0-clause-now
returns-then-count-eq0-clause-now c = λ e.
    let x = c.args.entry.now in
    let m = c.args.counts.now in
    let v = c.in-Some.count.now in
    let n = c.get_mut.follows.lender v in
    let h = (c.get_mut.follows.holds v).3 (search rules) in
    let had : left_of m x ≡ c.in-Some.count.now = grind (arith, common_steps, c.get_mut.ensures.value, c.in-Some.is) in
    taken x e m _ v v (written x m n v h e) had (omega arith)

pub returns-clause-now : goal.returns-clause-now
returns-clause-now c = λ e.
    let x = c.args.entry.now in
    let m = c.args.counts.now in
    let v = c.in-Some.count.now - 1 in
    let n = c.get_mut.follows.lender v in
    let h = (c.get_mut.follows.holds v).3 (search rules) in
    let had : left_of m x ≡ c.in-Some.count.now = grind (arith, common_steps, c.get_mut.ensures.value, c.in-Some.is) in
    taken x e m _ v c.in-Some.count.now (written x m n v h e) had refl
