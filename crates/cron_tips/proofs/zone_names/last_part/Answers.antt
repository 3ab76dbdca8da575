use Rattle.std.proofs.Common.{◌∙◌, sym}
use Rattle.cron_tips.proofs.ZoneLemmas.{part_alone, part_kept}
use Rattle.cron_tips.proofs.zone_names.last_part.Goals as goal

pub loop-behind-preserved : goal.loop-behind-preserved
loop-behind-preserved c = record {
  part = part_kept c.loop-behind.last.now _ c.in-Some.behind.now (rw c.in-Some.is at c.cut_at.ensures.pieces) ∙ c.loop-behind.invariant.part;
  text = rw c.in-Some.is at c.cut_at.ensures.text;
}

pub returns : goal.returns
returns c = sym (part_alone c.loop-behind.last.now _ (rw c.in_default.is at c.cut_at.ensures.pieces)) ∙ c.loop-behind.invariant.part
