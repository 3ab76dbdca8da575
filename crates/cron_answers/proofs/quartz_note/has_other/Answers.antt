use Rattle.std.proofs.Common.{◌≡◌, [], refl, sym, ◌∙◌}
use Rattle.jiff.specs.Words.{plain_zone}
use Rattle.cron_answers.proofs.QuartzLemmas.{no_more_looked, none_looked, one_alike, one_other}
use Rattle.cron_answers.proofs.quartz_note.has_other.Goals as goal

pub fires-init : goal.fires-init
fires-init g c = refl

pub fires-preserved : goal.fires-preserved
fires-preserved g c =
    c.fires.invariant
    ∙ one_alike g.F.Told.civil g.F.Told.second (plain_zone c.args.zone.now) c.fires.more (g.L.Left.left c.fires.left) (g.L.Left.left c.take_first.new.self)
    c.in-Some.fire (sym c.is_none_wanted.ensures ∙ c.fires-test.true) c.in-Some.ensures (sym c.is_quartz_fire.ensures ∙ c.if-not-is_quartz_fire.false)
    ∙ rw c.one_less-more.ensures refl

pub returns-in_default : goal.returns-in_default
returns-in_default g c =
    let none : (g.L.Left.left c.fires.left ≡ []) × (g.L.Left.left c.take_first.new.self ≡ []) = c.in_default.ensures in
    sym (c.fires.invariant ∙ none_looked g.F.Told.civil g.F.Told.second (plain_zone c.args.zone.now) c.fires.more (g.L.Left.left c.fires.left) none.0)

pub returns-then-not-is_quartz_fire : goal.returns-then-not-is_quartz_fire
returns-then-not-is_quartz_fire g c =
    sym (c.fires.invariant
    ∙ one_other g.F.Told.civil g.F.Told.second (plain_zone c.args.zone.now) c.fires.more (g.L.Left.left c.fires.left) (g.L.Left.left c.take_first.new.self)
    c.in-Some.fire (sym c.is_none_wanted.ensures ∙ c.fires-test.true) c.in-Some.ensures (sym c.is_quartz_fire.ensures ∙ c.if-not-is_quartz_fire.true))

pub returns : goal.returns
returns g c =
    sym (c.fires.invariant ∙ no_more_looked g.F.Told.civil g.F.Told.second (plain_zone c.args.zone.now) c.fires.more (g.L.Left.left c.fires.left)
    (sym c.is_none_wanted.ensures ∙ c.fires-test.false))
