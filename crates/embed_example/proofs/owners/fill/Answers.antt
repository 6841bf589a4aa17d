use Rattle.std.proofs.Common.{◌≡◌, List, [], ◌∷◌, ◌++◌, ap, ◌∙◌, refl, arith}
use Rattle.pgs_step.specs.declared.events.What.{What}
use Rattle.pgs_step.specs.declared.events.What.TheVariants as what
use Rattle.pgs_step.specs.EventList.{Kept, KeepsMore, KeepsMore-more}
use Rattle.owner_core.specs.Owners.{OwnerTable}
use Rattle.embed_example.specs.Filled.{connection, file, cursor}
use Rattle.embed_example.proofs.owners.fill.Goals as goal

both : (a b c : Kept) (xs ys : List What) → KeepsMore a xs b → KeepsMore b ys c → KeepsMore a (xs ++ ys) c
both a b c xs ys p q = KeepsMore-more a b c xs ys (xs ++ ys) p q refl

pub returns-clause-said : goal.returns-clause-said
returns-clause-said c =
    let o1 : c.args.owners.now.next_owner ≡ 1 = ap (λ (t : OwnerTable). t.next_owner) c.requires.new in
    let s1 : c.args.owners.now.next_serial ≡ 1 = ap (λ (t : OwnerTable). t.next_serial) c.requires.new in
    let n1 : c.in_ok-top.top.number ≡ 1 = c.in_ok-top.ensures.number ∙ o1 in
    let o2 : c.create.new.self.next_owner ≡ 2 = omega (arith, c.in_ok-top.ensures.next_owner, o1) in
    let n2 : c.in_ok-child.child.number ≡ 2 = c.in_ok-child.ensures.number ∙ o2 in
    let t1 : c.create-2.new.self.next_serial ≡ 1 = c.create-2.ensures.next_serial ∙ c.create.ensures.next_serial ∙ s1 in
    let t2 : c.open.new.owners.next_serial ≡ 2 = omega (arith, c.in_ok-open.ensures.next_serial, t1) in
    let t3 : c.open-2.new.owners.next_serial ≡ 3 = omega (arith, c.in_ok-open-2.ensures.next_serial, t2) in
    let t4 : c.open-3.new.owners.next_serial ≡ 4 = omega (arith, c.in_ok-open-3.ensures.next_serial, t3) in
    let p1 : KeepsMore c.args.out.now (what.Owner 1 ∷ []) c.create.new.out = rw o1 at c.in_ok-top.ensures.emits in
    let p2 : KeepsMore c.create.new.out (what.OwnerIn 2 1 ∷ []) c.create-2.new.out = rw (o2, n1) at c.in_ok-child.ensures.emits in
    let p3 : KeepsMore c.create-2.new.out (what.Acquire (connection 1 1) 1 ∷ []) c.open.new.out = rw (t1, n1) at c.in_ok-open.ensures.said in
    let p4 : KeepsMore c.open.new.out (what.Acquire (file 2 2) 2 ∷ []) c.open-2.new.out = rw (t2, n2) at c.in_ok-open-2.ensures.said in
    let p5 : KeepsMore c.open-2.new.out (what.Acquire (cursor 3 3) 2 ∷ []) c.open-3.new.out = rw (t3, n2) at c.in_ok-open-3.ensures.said in
    let p6 : KeepsMore c.open-3.new.out (what.Acquire (connection 4 4) 2 ∷ []) c.open-4.new.out = rw (t4, n2) at c.in_ok-open-4.ensures.said in
    both c.args.out.now c.create.new.out c.open-4.new.out (what.Owner 1 ∷ []) (what.OwnerIn 2 1 ∷ what.Acquire (connection 1 1) 1 ∷ what.Acquire (file 2 2) 2 ∷ what.Acquire (cursor 3 3) 2 ∷ what.Acquire (connection 4 4) 2 ∷ []) p1
    (both c.create.new.out c.create-2.new.out c.open-4.new.out (what.OwnerIn 2 1 ∷ []) (what.Acquire (connection 1 1) 1 ∷ what.Acquire (file 2 2) 2 ∷ what.Acquire (cursor 3 3) 2 ∷ what.Acquire (connection 4 4) 2 ∷ []) p2
    (both c.create-2.new.out c.open.new.out c.open-4.new.out (what.Acquire (connection 1 1) 1 ∷ []) (what.Acquire (file 2 2) 2 ∷ what.Acquire (cursor 3 3) 2 ∷ what.Acquire (connection 4 4) 2 ∷ []) p3
    (both c.open.new.out c.open-2.new.out c.open-4.new.out (what.Acquire (file 2 2) 2 ∷ []) (what.Acquire (cursor 3 3) 2 ∷ what.Acquire (connection 4 4) 2 ∷ []) p4 (both c.open-2.new.out c.open-3.new.out c.open-4.new.out (what.Acquire (cursor 3 3) 2 ∷ []) (what.Acquire (connection 4 4) 2 ∷ []) p5 p6))))
