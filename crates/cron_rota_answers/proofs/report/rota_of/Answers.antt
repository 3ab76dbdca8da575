use Rattle.cron_rota_answers.proofs.AnswerLemmas.{no_error, ok_only}
use Rattle.cron_rota_answers.proofs.report.rota_of.Goals as goal

pub unwrap-requires : goal.unwrap-requires
unwrap-requires g c = ok_only _ _ c.of.result c.of.ensures (λ error is. no_error c.args.duty.now.people c.args.duty.now.swaps.now error c.requires is)
