use Rattle.std.proofs.Common.{ℕ, List, ◌++◌, ap, ◌∙◌}
use Rattle.std.specs.Prelude.{codes}
use Rattle.std.proofs.lemmas.Result.{on_ok_weaker}
use Rattle.cron_findings.proofs.WritingLemmas.{written_5}
use Rattle.cron_findings.specs.Members.{string_member}
use Rattle.cron_findings.proofs.objects.write_matter.Goals as goal

pub returns : goal.returns
returns c =
    on_ok_weaker c.write_hint.result
    (λ more. written_5 _ _ _ _ _
    c.args.object.now.tokens c.write_string.new.object.tokens c.write_string-2.new.object.tokens c.write_string-3.new.object.tokens c.key.new.self.tokens c.write_hint.new.object.tokens
    c.args.object.now.before c.write_string.new.object.before c.write_string-2.new.object.before c.write_string-3.new.object.before c.key.new.self.before c.write_hint.new.object.before
    (c.in_ok-write_string.ensures.0 ∙ ap (λ (w : List ℕ). c.args.object.now.tokens ++ string_member (codes "severity") w) c.severity_word.ensures, c.in_ok-write_string.ensures.1)
    c.in_ok-write_string-2.ensures
    c.in_ok-write_string-3.ensures
    (c.in_ok-key.ensures.ok, c.key.ensures.room.0)
    more)
    c.write_hint.ensures
