use Rattle.std.proofs.Common.{◌≡◌, ◌∙◌, min, length, get_or, subst, sym, ap, pos, ◌+ℤ◌, arith}
use Rattle.cron_unions.specs.Inner.Heads.{ArePassing, IsPassing}
use Rattle.cron_unions.specs.declared.heads.Head.{Head}
use Rattle.cron_unions.proofs.HeadLemmas.{passing-of, passing-at, passing-set, pair-done, pair-least}
use Rattle.cron_unions.proofs.heads.pass_heads.Goals as goal
use Rattle.cron_unions.proofs.heads.pass_heads.Goals.{then-heads-second, else-heads-second}

pub pass_each-requires-clause-passing : goal.pass_each-requires-clause-passing
pass_each-requires-clause-passing c = passing-of c.args.schedules.now c.args.second c.args.heads.now c.requires.heads

pub pass-requires-clause-passing : goal.pass-requires-clause-passing
pass-requires-clause-passing c =
    let ss = c.args.schedules.now in
    let count : length c.args.heads.now ≡ 2 = omega (arith, c.requires.all, c.if-schedules-ne2.false) in
    let before = passing-of ss c.args.second c.args.heads.now c.requires.heads in
    subst (IsPassing c.index-schedules-0.result c.args.second) c.index-heads-0-then-heads-second.is
    (passing-at ss c.args.second 0 c.args.heads.now c.index-schedules-0.result c.index-heads-0-then-heads-second.result before (omega arith) c.index-schedules-0.is c.index-heads-0-then-heads-second.is)

pub pass-requires-else-heads-second-clause-passing : goal.pass-requires-else-heads-second-clause-passing
pass-requires-else-heads-second-clause-passing c =
    let ss = c.args.schedules.now in
    let count : length c.args.heads.now ≡ 2 = omega (arith, c.requires.all, c.if-schedules-ne2.false) in
    let before = passing-of ss c.args.second c.args.heads.now c.requires.heads in
    subst (IsPassing c.index-schedules-1.result c.args.second) c.index-heads-1.is
    (passing-at ss c.args.second 1 c.args.heads.now c.index-schedules-1.result c.index-heads-1.result before (omega arith) c.index-schedules-1.is c.index-heads-1.is)

pub pass_each-requires-then-least-second-clause-passing : goal.pass_each-requires-then-least-second-clause-passing
pass_each-requires-then-least-second-clause-passing c =
    let ss = c.args.schedules.now in
    let count : length c.args.heads.now ≡ 2 = omega (arith, c.requires.all, c.if-schedules-ne2.false) in
    let before = passing-of ss c.args.second c.args.heads.now c.requires.heads in
    let passing : ArePassing ss c.args.second c.if-heads-second.heads = elim c.if-heads-second.branch [
      | then-heads-second w ↦ subst (ArePassing ss c.args.second) (sym w.heads-is)
          (passing-set ss c.args.second 0 c.args.heads.now w.index-schedules-0.result w.pass.new.self c.requires.range before (omega arith) w.index-schedules-0.is w.pass.ensures)
      | else-heads-second w ↦ subst (ArePassing ss c.args.second) (sym w.heads-is)
          (passing-set ss c.args.second 1 c.args.heads.now w.index-schedules-1.result w.pass-else-heads-second.new.self c.requires.range before (omega arith) w.index-schedules-1.is w.pass-else-heads-second.ensures)
    ] in
    passing

pub returns-clause-heads : goal.returns-clause-heads
returns-clause-heads c =
    let ss = c.args.schedules.now in
    let count : length c.args.heads.now ≡ 2 = omega (arith, c.requires.all, c.if-schedules-ne2.false) in
    let before = passing-of ss c.args.second c.args.heads.now c.requires.heads in
    let passing : ArePassing ss c.args.second c.if-heads-second.heads = elim c.if-heads-second.branch [
      | then-heads-second w ↦ subst (ArePassing ss c.args.second) (sym w.heads-is)
          (passing-set ss c.args.second 0 c.args.heads.now w.index-schedules-0.result w.pass.new.self c.requires.range before (omega arith) w.index-schedules-0.is w.pass.ensures)
      | else-heads-second w ↦ subst (ArePassing ss c.args.second) (sym w.heads-is)
          (passing-set ss c.args.second 1 c.args.heads.now w.index-schedules-1.result w.pass-else-heads-second.new.self c.requires.range before (omega arith) w.index-schedules-1.is w.pass-else-heads-second.ensures)
    ] in
    let hs = c.if-heads-second.heads in
    let a = c.index-heads-0-2.result in
    let b = c.index-heads-1-2.result in
    let long : length hs ≡ 2 = omega (arith, c.if-heads-second.auto.heads) in
    let least : c.min-least.result ≡ min a.next b.next =
    c.min-least.ensures ∙ ap (λ (x : Head). min x.next (get_or hs 1 b).next) (sym c.index-heads-0-2.is) ∙ ap (λ (x : Head). min a.next x.next) (sym c.index-heads-1-2.is) in
    let heads = pair-done ss c.args.second c.min-least.result hs a b c.requires.range passing c.if-schedules-ne2.false long c.index-heads-0-2.is c.index-heads-1-2.is least c.if-least-second.false in
    heads

pub returns-clause-nearest : goal.returns-clause-nearest
returns-clause-nearest c =
    let ss = c.args.schedules.now in
    let count : length c.args.heads.now ≡ 2 = omega (arith, c.requires.all, c.if-schedules-ne2.false) in
    let before = passing-of ss c.args.second c.args.heads.now c.requires.heads in
    let passing : ArePassing ss c.args.second c.if-heads-second.heads = elim c.if-heads-second.branch [
      | then-heads-second w ↦ subst (ArePassing ss c.args.second) (sym w.heads-is)
          (passing-set ss c.args.second 0 c.args.heads.now w.index-schedules-0.result w.pass.new.self c.requires.range before (omega arith) w.index-schedules-0.is w.pass.ensures)
      | else-heads-second w ↦ subst (ArePassing ss c.args.second) (sym w.heads-is)
          (passing-set ss c.args.second 1 c.args.heads.now w.index-schedules-1.result w.pass-else-heads-second.new.self c.requires.range before (omega arith) w.index-schedules-1.is w.pass-else-heads-second.ensures)
    ] in
    let hs = c.if-heads-second.heads in
    let a = c.index-heads-0-2.result in
    let b = c.index-heads-1-2.result in
    let long : length hs ≡ 2 = omega (arith, c.if-heads-second.auto.heads) in
    let least : c.min-least.result ≡ min a.next b.next =
    c.min-least.ensures ∙ ap (λ (x : Head). min x.next (get_or hs 1 b).next) (sym c.index-heads-0-2.is) ∙ ap (λ (x : Head). min a.next x.next) (sym c.index-heads-1-2.is) in
    let heads = pair-done ss c.args.second c.min-least.result hs a b c.requires.range passing c.if-schedules-ne2.false long c.index-heads-0-2.is c.index-heads-1-2.is least c.if-least-second.false in
    pair-least ss (pos c.args.second +ℤ pos 1) c.min-least.result hs a b heads c.if-schedules-ne2.false long c.index-heads-0-2.is c.index-heads-1-2.is least
