use Rattle.std.proofs.Common.{ℕ, List, ◌++◌, ap, ◌∙◌}
use Rattle.std.proofs.lemmas.Result.{on_ok_weaker}
use Rattle.cron_findings.proofs.WritingLemmas.{appended_6}
use Rattle.std.specs.Fmt.{decimal}
use Rattle.cron_findings.proofs.github.push_place.Goals as goal

pub returns : goal.returns
returns c =
    on_ok_weaker c.push_number-3.result
    (λ more. appended_6 _ _ _ _ _ _
    c.args.text.now.items c.extend_from_slice.new.self.items c.push_number.new.text.items c.extend_from_slice-2.new.self.items c.push_number-2.new.text.items c.extend_from_slice-3.new.self.items c.push_number-3.new.text.items
    c.in_ok-extend_from_slice.ensures.items
    c.in_ok-push_number.ensures
    c.in_ok-extend_from_slice-2.ensures.items
    (c.in_ok-push_number-2.ensures ∙ ap (λ (n : ℕ). c.extend_from_slice-2.new.self.items ++ decimal n) c.column.ensures.value)
    c.in_ok-extend_from_slice-3.ensures.items
    (more ∙ ap (λ (n : ℕ). c.extend_from_slice-3.new.self.items ++ decimal n) c.last_column.ensures))
    c.push_number-3.ensures
