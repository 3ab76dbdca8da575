use Rattle.std.proofs.Common.{◌≡◌, [], ◌∷◌, ◌++◌, length, rules, sym, ap, ◌∙◌, subst, append_assoc, append-nil, length-append, arith}
use Rattle.cron_ics.specs.Fires.{AreTold}
use Rattle.cron_ics.proofs.FireLemmas.{as_many, one_more, too_many}
use Rattle.cron_ics.proofs.fires.collect.Goals as goal

pub returns-then-len-room-clause-many : goal.returns-then-len-room-clause-many
returns-then-len-room-clause-many g c =
    let (front, told, split, few) = c.fires.invariant in
    let one = c.in-Some.ensures in
    λ is. too_many front _ _ one.0 c.fires.fires.items c.args.room told (split ∙ ap (λ l. front ++ l) one.1) (omega (arith, c.len.ensures, c.if-len-room.true))

pub fires-preserved : goal.fires-preserved
fires-preserved g c =
    let (front, told, split, few) = c.fires.invariant in
    let one = c.in-Some.ensures in
    let items : c.push.new.self.items ≡ c.fires.fires.items ++ c.in-Some.fire ∷ [] = search rules in (
      front ++ one.0 ∷ [],
      subst (AreTold (front ++ one.0 ∷ [])) (sym items) (one_more front c.fires.fires.items one.0 c.in-Some.fire told one.2),
      split ∙ (ap (λ l. front ++ l) one.1 ∙ sym (append_assoc front (one.0 ∷ []) _)),
      omega (arith, ap length items, length-append c.fires.fires.items (c.in-Some.fire ∷ []), c.len.ensures, c.if-len-room.false),
    )

pub returns-clause-few : goal.returns-clause-few
returns-clause-few g c =
    let (front, told, split, few) = c.fires.invariant in
    omega (arith, as_many front c.fires.fires.items told, ap length (split ∙ (ap (λ l. front ++ l) c.in_default.ensures ∙ append-nil front)))
