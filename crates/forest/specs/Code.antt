-- How a forest is stored as a list, from the first root on, each node before its children and these before its siblings.
use Rattle.std.specs.Prelude.{◌≡◌, ℕ, List, [], ◌∷◌, ◌++◌, Option, Some, None, refl}
use Rattle.std.proofs.Common.{ap, ◌∙◌, sym, append_assoc}
use Rattle.std.proofs.lemmas.List.{append-nil}
use Rattle.std.specs.Coded.{Coded, code_by, coded×, coded_ℕ, coded_list, coded_option}
use Rattle.forest.specs.Forest.{Forest, Empty, Node}

module _ {A : Type 0} where
  -- each node, with `None` for the end of children or siblings
  abbrev tokens : Forest A → List (Option (ℕ × A))
  tokens Empty = None ∷ []
  tokens (Node n a below beside) = Some (n, a) ∷ (tokens below ++ tokens beside)

  -- the forests on a stack become the children and the siblings of a node
  abbrev join : ℕ → A → List (Forest A) → List (Forest A)
  join n a [] = []
  join n a (below ∷ []) = []
  join n a (below ∷ (beside ∷ rest)) = Node n a below beside ∷ rest

  abbrev stack : List (Option (ℕ × A)) → List (Forest A)
  stack [] = []
  stack (None ∷ rest) = Empty ∷ stack rest
  stack (Some p ∷ rest) = join p.0 p.1 (stack rest)

  abbrev top : List (Forest A) → Forest A
  top [] = Empty
  top (t ∷ rest) = t

  stack_tokens : (t : Forest A) (rest : List (Option (ℕ × A))) → stack (tokens t ++ rest) ≡ t ∷ stack rest
  stack_tokens Empty rest = refl
  stack_tokens (Node n a below beside) rest =
      ap (λ (xs : List (Option (ℕ × A))). join n a (stack xs)) (append_assoc (tokens below) (tokens beside) rest)
      ∙ ap (join n a) (stack_tokens below (tokens beside ++ rest) ∙ ap (λ (xs : List (Forest A)). below ∷ xs) (stack_tokens beside rest))

  pub read_back : (t : Forest A) → top (stack (tokens t)) ≡ t
  read_back t = ap (λ (xs : List (Option (ℕ × A))). top (stack xs)) (sym (append-nil (tokens t))) ∙ ap top (stack_tokens t [])

  abbrev pub forest_code : Coded A → Coded (Forest A)
  forest_code code =
      code_by (List (Option (ℕ × A))) (coded_list (coded_option (coded× coded_ℕ code))) tokens (λ xs. top (stack xs)) read_back
