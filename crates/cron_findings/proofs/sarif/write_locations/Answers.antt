use Rattle.std.proofs.Common.{ℕ}
use Rattle.std.proofs.lemmas.Result.{on_ok_weaker}
use Rattle.cron_findings.proofs.WritingLemmas.{written_4}
use Rattle.cron_findings.proofs.sarif.write_locations.Goals as goal

pub returns : goal.returns
returns c =
    on_ok_weaker c.end_array.result
    (λ more. written_4 _ _ _ _
    c.args.object.now.tokens c.key.new.self.tokens c.begin_array.new.self.tokens c.write_location.new.object.tokens c.end_array.new.self.tokens
    c.args.object.now.before c.key.new.self.before c.begin_array.new.self.before c.write_location.new.object.before c.end_array.new.self.before
    (c.in_ok-key.ensures.ok, c.key.ensures.room.0)
    (c.in_ok-begin_array.ensures.ok, c.begin_array.ensures.room.0)
    c.in_ok-write_location.ensures
    (more, c.end_array.ensures.room.0))
    c.end_array.ensures.ok
