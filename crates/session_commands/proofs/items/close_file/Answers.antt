use Rattle.session_commands.proofs.items.close_file.Goals as goal

pub returns : goal.returns
returns g c = record { performed = c.give_back.ensures.performed }
