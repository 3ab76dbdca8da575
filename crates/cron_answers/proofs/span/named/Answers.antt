use Rattle.std.proofs.Common.{◌≡◌, ℕ, List, ◌/◌, inl, inr, codes, sym, ◌∙◌}
use Rattle.std.proofs.lemmas.Bool.{true≢false}
use Rattle.cron_answers.specs.Days.{AreDays}
use Rattle.cron_answers.specs.Spans.{IsNamed}
use Rattle.cron_answers.proofs.span.named.Goals as goal

none : (text : List ℕ) (shown from end : ℕ) → ((first last : ℕ) → AreDays text (shown / 86_400) first last → ⊥) → (text ≡ codes "tonight" → ⊥)
    → IsNamed text shown from end → ⊥
none text shown from end days night (inl h) = days h.0 h.1 h.2
none text shown from end days night (inr h) = night h.0

pub returns-then-ne : goal.returns-then-ne
returns-then-ne c = λ from end h. none c.args.text.now c.args.shown from end c.in_default.ensures.names (λ e. let h' = sym c.if-ne.true ∙ c.ne.ensures in true≢false (rw e at h')) h
