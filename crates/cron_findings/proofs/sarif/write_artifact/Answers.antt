use Rattle.std.proofs.Common.{ℕ, List, ◌++◌, ap, ◌∙◌}
use Rattle.std.specs.Prelude.{codes}
use Rattle.std.proofs.lemmas.Result.{on_ok_weaker}
use Rattle.cron_findings.proofs.WritingLemmas.{written_4}
use Rattle.cron_findings.specs.Members.{string_member}
use Rattle.cron_findings.proofs.sarif.write_artifact.Goals as goal

pub returns : goal.returns
returns c =
    on_ok_weaker c.end_object.result
    (λ more. written_4 _ _ _ _
    c.args.object.now.tokens c.key.new.self.tokens c.begin_object.new.self.tokens c.write_string.new.object.tokens c.end_object.new.self.tokens
    c.args.object.now.before c.key.new.self.before c.begin_object.new.self.before c.write_string.new.object.before c.end_object.new.self.before
    (c.in_ok-key.ensures.ok, c.key.ensures.room.0)
    (c.in_ok-begin_object.ensures.ok, c.begin_object.ensures.room.0)
    (c.in_ok-write_string.ensures.0 ∙ ap (λ (w : List ℕ). c.begin_object.new.self.tokens ++ string_member (codes "uri") w) (c.as_str.ensures.value ∙ c.in_ok-uri.ensures), c.in_ok-write_string.ensures.1)
    (more, c.end_object.ensures.room.0))
    c.end_object.ensures.ok
