use Rattle.std.proofs.lemmas.Grind.{common_steps}
use Rattle.std.proofs.Common.{◌≡◌, [], ◌∷◌, ℕ, List, get_or, drop, sym, arith}
use Rattle.std.proofs.lemmas.List.{drop_more, drop_all}
use Rattle.cron_text.proofs.MeaningLemmas.{no_shorthand}
use Rattle.cron_text.proofs.texts.shorthand_at.Goals as goal

first_is : (bs cs : List ℕ) (b c : ℕ) (more : List ℕ) → bs ≡ b ∷ more → bs ≡ c ∷ cs → b ≡ c
first_is bs cs b c more h k = cc

none_left : (bs cs : List ℕ) (c : ℕ) → bs ≡ [] → bs ≡ c ∷ cs → ⊥
none_left bs cs c h k = cc

pub returns-then-at-text : goal.returns-then-at-text
returns-then-at-text c =
    sym (no_shorthand (drop c.args.at c.args.text.now) (λ cs e. none_left _ cs 64 (drop_all c.args.at c.args.text.now c.if-at-text.true) e))

pub returns-then-text-at-ne64 : goal.returns-then-text-at-ne64
returns-then-text-at-ne64 c =
    let text = c.args.text.now in
    sym (no_shorthand (drop c.args.at text) (λ cs e. c.if-text-at-ne64.true
    (first_is _ cs (get_or text c.args.at 0) 64 _ (drop_more text c.args.at 0 c.if-at-text.false) e)))

pub returns : goal.returns
returns c = grind (arith, common_steps)
