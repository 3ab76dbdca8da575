use Rattle.std.proofs.Common.{◌≡◌, ◌++◌, ℕ, List}
use Rattle.cron_ics.proofs.PageLemmas.{Makes}
use Rattle.cron_ics.proofs.pages.push_spans.Given as goal

-- the events of the spans before a place were pushed, and those of the others come behind
abbrev pub invariant-loop-span : goal.invariant-loop-span
invariant-loop-span l = (pushed : List ℕ) × (l.page.items ≡ l.fn.page.items ++ pushed) × Makes l.series l.spans l.span-index pushed
