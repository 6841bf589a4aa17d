-- An owner that remembers an item more is otherwise as it was.

-- the same where it did, and where it was refused
