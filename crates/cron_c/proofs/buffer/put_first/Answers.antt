use Rattle.std.proofs.Common.{◌≡◌, ℕ, List, ◌++◌, rules, sym, ap, ◌∙◌}
use Rattle.std.specs.Prelude.{take}
use Rattle.cron_c.proofs.Over.{over_front}
use Rattle.cron_c.proofs.buffer.put_first.Goals as goal

pub returns : goal.returns
returns c =
    let copied : c.copy_from_slice.new.self ≡ take c.min-count.result c.args.bytes.now = search rules in
    ap (λ (l : List ℕ). l ++ c.split_at_mut-front.result.1.now) copied
    ∙ (ap (λ (l : List ℕ). take c.min-count.result c.args.bytes.now ++ l) c.split_at_mut-front.ensures.back
    ∙ sym (over_front c.args.buffer.now c.args.bytes.now c.min-count.result c.min-count.ensures))
