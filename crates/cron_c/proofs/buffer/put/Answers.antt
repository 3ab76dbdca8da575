use Rattle.std.proofs.Common.{ℕ, List, ◌++◌, sym, ap, ◌∙◌, arith}
use Rattle.cron_c.specs.Buffers.{laid_over}
use Rattle.cron_c.proofs.Over.{over_at, over_past}
use Rattle.cron_c.proofs.buffer.put.Goals as goal

pub returns-then-at-buffer : goal.returns-then-at-buffer
returns-then-at-buffer c =
    let front = c.split_at_mut-rest.result.0.now in
    let back = c.split_at_mut-rest.result.1.now in
    ap (λ (l : List ℕ). front ++ l) c.put_first.ensures ∙ (sym (over_at front back c.args.bytes.now)
    ∙ (ap (λ (n : ℕ). laid_over n c.args.bytes.now (front ++ back)) c.split_at_mut-rest.ensures.front_len
    ∙ ap (laid_over c.args.at c.args.bytes.now) (sym c.split_at_mut-rest.ensures.value)))

pub returns-else-at-buffer : goal.returns-else-at-buffer
returns-else-at-buffer c = sym (over_past c.args.buffer.now c.args.bytes.now c.args.at (omega (arith, c.if-at-buffer.false)))
