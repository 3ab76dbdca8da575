use Rattle.std.proofs.Common.{◌+◌, ◌-◌, ◌<◌, ◌∙◌, ap, sym, arith}
use Rattle.cron_tab_lines.specs.Bytes.{behind, is_blank}
use Rattle.cron_tab_lines.specs.Entries.{behind_words}
use Rattle.cron_tab_lines.proofs.EntryLemmas.{word-less}
use Rattle.cron_tab_lines.proofs.entries.behind_words.Goals as goal

pub loop-place-preserved : goal.loop-place-preserved
loop-place-preserved c =
    let some : c.loop-place._place < c.args.count = omega arith in
    let less = word-less c.args.count c.loop-place._place c.loop-place.rest.now some in
    let word = c.behind.ensures.shorter in
    let blank = c.behind-rest.ensures.shorter in
    let before = c.loop-place.invariant.shorter in
    record {
      left = ap (behind_words (c.args.count - (c.loop-place._place + 1))) (c.behind-rest.ensures.is ∙ ap (behind is_blank) c.behind.ensures.is) ∙ sym less ∙ c.loop-place.invariant.left;
      shorter = omega arith;
    }
