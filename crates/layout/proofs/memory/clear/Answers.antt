use Rattle.std.proofs.Common.{◌≡◌, ◌-◌, ◌++◌, length, take, replicate, sym, ap, ◌∙◌, arith, length-drop, length-take, rules}
use Rattle.std.proofs.lemmas.List.{append-nil, places, same_lists, take_all}
use Rattle.layout.specs.Cleared.{cleared}
use Rattle.layout.proofs.memory.clear.Goals as goal

pub returns-then-from-memory : goal.returns-then-from-memory
unfolding cleared
returns-then-from-memory c =
    let filled : c.fill.new.self ≡ replicate (length c.args.memory.now - c.args.from) 0 =
    c.fill.ensures.after (λ y e. e) ∙ ap (λ n. replicate n 0) (simp (length-take, length-drop) (omega arith)) in
    same_lists _ _ (search (rules, places)) (λ k d h. grind (arith, places))

pub returns-else-from-memory : goal.returns-else-from-memory
unfolding cleared
returns-else-from-memory c =
    let m = c.args.memory.now in
    let nothing : length m - c.args.from ≡ 0 = omega arith in
    sym (ap (λ n. take c.args.from m ++ replicate n 0) nothing ∙ append-nil (take c.args.from m) ∙ take_all c.args.from m c.if-from-memory.false)
