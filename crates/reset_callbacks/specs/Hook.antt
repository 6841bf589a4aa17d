-- What a hook stands for, and words on lists of hooks.
use Rattle.std.specs.Prelude.{ℕ, ◌+◌, ◌-◌, ◌^◌, ◌<◌, ◌≢◌, min, List, [], ◌∷◌, All, nat_le, if◌then◌else◌}

-- a hook: the word by which it is known, and how often it has run
pub record Hook : Type 0 where
  pub word : ℕ
  pub runs : ℕ

-- the hook after one more run: a count at the end of its type stands still
abbrev pub ran : Hook → Hook
ran h = record h { runs = min (h.runs + 1) (2 ^ 64 - 1) }

-- no hook of the list has this word
abbrev pub Lacks : List Hook → ℕ → Type 0
Lacks hooks word = All (λ other. other.word ≢ word) hooks

-- each hook of the list has a greater word
abbrev pub IsBelow : ℕ → List Hook → Type 0
IsBelow word hooks = All (λ other. word < other.word) hooks

-- the words of the hooks rise strictly
abbrev pub AreRising : List Hook → Type 0
AreRising [] = Unit {0}
AreRising (h ∷ hs) = IsBelow h.word hs × AreRising hs

-- the words of the hooks all differ
abbrev pub AreDistinct : List Hook → Type 0
AreDistinct [] = Unit {0}
AreDistinct (h ∷ hs) = Lacks hs h.word × AreDistinct hs

-- the list with one more hook, in front of the first hook whose word is not below its own
abbrev pub with_hook : Hook → List Hook → List Hook
with_hook h [] = h ∷ []
with_hook h (x ∷ xs) = (if nat_le h.word x.word then h ∷ x ∷ xs else x ∷ with_hook h xs)

-- the hooks in rising order of their words
abbrev pub in_order : List Hook → List Hook
in_order [] = []
in_order (h ∷ hs) = with_hook h (in_order hs)
