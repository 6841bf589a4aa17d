use Rattle.pgs_io.proofs.words.next_token.Goals as goal

-- a word with no space does not have one at its place
pub returns-in-Some-clause-whole : goal.returns-in-Some-clause-whole
returns-in-Some-clause-whole c = λ none. absurd (none c.in-Some.at 0 c.in-Some.ensures.bound c.in-Some.ensures.there)
