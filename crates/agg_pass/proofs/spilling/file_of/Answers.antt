use Rattle.agg_pass.proofs.spilling.file_of.Goals as goal

pub returns-in-Some-clause-rows : goal.returns-in-Some-clause-rows
returns-in-Some-clause-rows c = λ rows spilled. spilled.rows_in_file c.in-Some.number c.in-Some.is
