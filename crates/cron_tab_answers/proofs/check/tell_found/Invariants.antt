use Rattle.std.proofs.Common.{◌≡◌}
use Rattle.std.specs.String.{string_bytes}
use Rattle.cron_tab_context.specs.Messages.{context_text}
use Rattle.cron_tab_answers.specs.Checks.{warning_line}
use Rattle.cron_replies.proofs.ToldLemmas.{IsToldSoFar}
use Rattle.cron_tab_answers.proofs.check.tell_found.Given as goal

-- the warnings so far were told
abbrev pub invariant-loop-found : goal.invariant-loop-found
invariant-loop-found l =
    IsToldSoFar (λ f. f.line ≡ l.fn.number) (λ f. warning_line l.wanted.front.now l.fn.number (context_text f.warning)) l.wanted.found.now l.found-index
    (string_bytes l.initial.text) (string_bytes l.text)
