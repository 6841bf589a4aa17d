-- What a shelf is where a class has no free chunk.
use Rattle.std.specs.Prelude.{None}
use Rattle.chunk_header.specs.declared.shelves.Shelf.{Shelf}

abbrev pub no_shelf : Shelf
no_shelf = record { first = None; count = 0 }
