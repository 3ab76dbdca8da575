use Rattle.std.proofs.Common.{◌++◌, ap, ◌∙◌, append_assoc, List, ℕ}
use Rattle.std.specs.Prelude.{codes}
use Rattle.cron_dues.proofs.text.push_nominal.Goals as goal

pub returns : goal.returns
returns c =
    let old = c.args.text.now.items in
    let bytes = c.nominal_bytes.result.now in
    c.push_bytes-2.ensures.items ∙ ap (λ (l : List ℕ). l ++ bytes) c.push_bytes.ensures.items ∙ append_assoc old (codes " for ") bytes
    ∙ ap (λ (l : List ℕ). old ++ (codes " for " ++ l)) c.nominal_bytes.ensures.value
