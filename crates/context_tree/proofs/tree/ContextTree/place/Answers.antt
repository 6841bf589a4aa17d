use Rattle.context_tree.proofs.Base.{◌≡◌, ◌+◌, ◌≤◌, length, Option, sym, subst, arith, IfSome}
use Rattle.context_tree.proofs.Words.{Found, written, ChunkId, TreeState, stands_for, Agrees, Moves, Leads}
use Rattle.context_tree.proofs.Lemmas.{Stands, stands, place_has, known_long, place_written}
use Rattle.context_tree.proofs.tree.ContextTree.place.Goals as goal

pub returns-clause-known : goal.returns-clause-known
returns-clause-known g c s agrees =
    place_has c.args.self.now c.args.chunk.now c.in-Some.entry s (stands c.args.self.now c.args.chunk.now c.in-Some.entry s agrees c.in-Some.ensures.some)

pub returns-clause-written : goal.returns-clause-written
returns-clause-written g c s t offset bytes agrees within writes =
    let a : TreeState = record { kept = c.self.inside.nodes.forest; places = c.self.inside.nodes.places; account = c.self.inside.account; current = c.self.inside.current; next = c.self.inside.next } in
    let x : Stands c.args.self.now c.args.chunk.now c.in-Some.entry s = stands c.args.self.now c.args.chunk.now c.in-Some.entry s agrees c.in-Some.ensures.some in
    let here : offset + length bytes ≤ length x.found.chunk.known = subst (λ (o : Option Found). IfSome o (λ f. offset + length bytes ≤ length f.chunk.known)) x.is within in
    subst (λ (y : TreeState). (stands_for y t ≡ written c.args.chunk.now offset bytes (stands_for y s)) × Moves y y s t) c.self.view_is
    (place_written a _ _ _ _ c.self.invariant s t c.args.chunk.now c.in-Some.entry offset bytes (subst (λ (y : TreeState). Agrees y s) (sym c.self.view_is) agrees)
    (subst (λ (y : TreeState). (id : ChunkId) × (leads : Leads y c.args.chunk.now id) × (leads.chunk.entry ≡ c.in-Some.entry)) (sym c.self.view_is) c.in-Some.ensures.some)
    (omega (arith, here, known_long c.args.self.now c.args.chunk.now c.in-Some.entry s x))
    writes)
