use Rattle.std.proofs.Common.{◌≡◌, ◌==◌, ℕ, suc, true, false, List, [], ◌∷◌, drop, get_or, refl, sym, ap, ◌∙◌, add-one, drop-cons, drop_of_length-le}
use Rattle.cron_text.specs.Tokens.{is_space}
use Rattle.cron_checking.specs.Lines.{is_passed_over}
use Rattle.cron_checking.proofs.line.is_passed_over.Goals as goal

at_space : (c : ℕ) (cs : List ℕ) → is_space c ≡ true → is_passed_over (c ∷ cs) ≡ is_passed_over cs
unfolding is_passed_over
at_space c cs e = rw e refl

at_other : (c : ℕ) (cs : List ℕ) → is_space c ≡ false → is_passed_over (c ∷ cs) ≡ (c == 35)
unfolding is_passed_over
at_other c cs e = rw e refl

at_end : is_passed_over [] ≡ true
unfolding is_passed_over
at_end = refl

pub returns-then-not-is_space : goal.returns-then-not-is_space
returns-then-not-is_space c =
    let line = c.args.line.now in
    let i = c.loop-byte.byte-index in
    sym (c.loop-byte.invariant ∙ (ap is_passed_over (drop-cons line i 0 c.loop-byte-test.true)
    ∙ at_other (get_or line i 0) (drop (suc i) line) (sym c.is_space.ensures ∙ c.if-not-is_space.true)))

pub loop-byte-preserved : goal.loop-byte-preserved
loop-byte-preserved c =
    let line = c.args.line.now in
    let i = c.loop-byte.byte-index in
    c.loop-byte.invariant ∙ (ap is_passed_over (drop-cons line i 0 c.loop-byte-test.true)
    ∙ (at_space (get_or line i 0) (drop (suc i) line) (sym c.is_space.ensures ∙ c.if-not-is_space.false)
    ∙ ap (λ (n : ℕ). is_passed_over (drop n line)) (sym (add-one i))))

pub returns : goal.returns
returns c = sym (c.loop-byte.invariant ∙ (ap is_passed_over (drop_of_length-le c.args.line.now c.loop-byte-test.false) ∙ at_end))
