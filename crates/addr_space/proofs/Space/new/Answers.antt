use Rattle.std.proofs.Common.{◌∙◌, ap, map, replicate, ◌≡◌, ℕ, zero, suc, ◌∷◌, refl, rules}
use Rattle.addr_space.specs.declared.Account.{Account}
use Rattle.addr_space.specs.Sound.{no_account}
use Rattle.addr_space.proofs.Space.new.Goals as goal

-- a function of each of many equal things
map-replicate : {A B : Type 0} (f : A → B) (n : ℕ) (x : A) → map f (replicate n x) ≡ replicate n (f x)
map-replicate f zero x = refl
map-replicate f (suc n) x = ap (λ xs. f x ∷ xs) (map-replicate f n x)

pub returns-clause-taken : goal.returns-clause-taken
returns-clause-taken c =
    let items : c.resize.new.self.items ≡ replicate c.args.accounts no_account = search rules in
    ap (map (λ (a : Account). a.taken)) items ∙ map-replicate (λ (a : Account). a.taken) c.args.accounts no_account
