-- The scripts of examples/: their transcripts keep the laws.
use Rattle.std.proofs.Common.{◌≡◌, true, ℕ, List, refl}
use Rattle.std.specs.Prelude.{codes}
use Rattle.pgs_io.specs.Lines.{lines_of}
use Rattle.session_rules.proofs.Setting.{options}
use Rattle.lifetime_rows.proofs.Setting.{keeps_laws, all_rules}

abbrev pub aborted_script : List ℕ
aborted_script = codes "# After an error only the end of the transaction is taken.\nbegin\npin 3\npin 1024\npin 4\nbegin\ncommit\nbegin\ncommit\n"

pub aborted : keeps_laws options (lines_of aborted_script) ≡ true
unfolding all_rules
aborted = refl

abbrev pub active_script : List ℕ
active_script = codes "# Active snapshots go with their level where it is rolled back, and belong to the level above where it commits.\nbegin\npush 4\nsavepoint s\npush 5\npush 5\nrelease s\npop\nsavepoint t\npush 6\npop\nsnapshot 5\nstat\npop\nrollback to t\nsavepoint u\npush 7\nrollback\nbegin\npush 8\ncommit\npop\nstat\n"

pub active : keeps_laws options (lines_of active_script) ≡ true
unfolding all_rules
active = refl

abbrev pub bad_lines_script : List ℕ
bad_lines_script = codes "# Lines that are none of a script: each is a syntax error, and aborts the transaction.\nBEGIN\nbegin \npin 5\nbegin\npin 07\npin\nrollback\n"

pub bad_lines : keeps_laws options (lines_of bad_lines_script) ≡ true
unfolding all_rules
bad_lines = refl

abbrev pub buffers_script : List ℕ
buffers_script = codes "# How many sessions pin a buffer: each counts once, however often it pins it.\nbegin\npin 7\npin 7\n@2 begin\n@2 pin 7\nbuffer 7\n@3 buffer 7\nunpin 7\nbuffer 7\nunpin 7\n@2 buffer 7\n@2 buffer 8\n@2 rollback\n@3 buffer 7\n@3 buffer 1024\n"

pub buffers : keeps_laws (record options { sessions = 3 }) (lines_of buffers_script) ≡ true
unfolding all_rules
buffers = refl

abbrev pub callbacks_script : List ℕ
callbacks_script = codes "# Callbacks run before their context's memory goes, the newest first; those of a child before those of its parent.\nbegin\ncontext p CurTransactionContext default\ncontext x p default\nonreset p\nonreset x\nonreset p\nreset p\nonreset p\nrollback\n"

pub callbacks : keeps_laws options (lines_of callbacks_script) ≡ true
unfolding all_rules
callbacks = refl

abbrev pub chunks_script : List ℕ
chunks_script = codes "# Chunks by name: bytes are written and shown, sizes change, and a chunk of a bump context can't be freed.\nbegin\nalloc a 10\nput a 0 0aFF\nalloc0 b 4\nrealloc a 100\nshow a 0 2\nshow b 0 4\nfree a\ncontext fast CurTransactionContext bump\nswitch fast\nalloc c 100\nfree c\nrollback\n"

pub chunks : keeps_laws options (lines_of chunks_script) ≡ true
unfolding all_rules
chunks = refl

abbrev pub commit_script : List ℕ
commit_script = codes "# A pin that is still held at commit is warned of, and released.\nbegin\npin 7\ncommit\n"

pub commit : keeps_laws options (lines_of commit_script) ≡ true
unfolding all_rules
commit = refl

abbrev pub contexts_script : List ℕ
contexts_script = codes "# Contexts go with the context that they stand below, the newest child first.\nbegin\ncontext p CurTransactionContext default\ncontext x p small\ncontext y p generation\ndelete p\ncontext w TopMemoryContext slab 64\nreparent w CurTransactionContext\ncommit\n"

pub contexts : keeps_laws options (lines_of contexts_script) ≡ true
unfolding all_rules
contexts = refl

abbrev pub files_script : List ℕ
files_script = codes "# nine files and eight descriptors: the file that was used least recently loses its own\nbegin\nopen 1\nopen 2\nopen 3\nopen 4\nopen 5\nopen 6\nopen 7\nopen 8\ntouch 1\nopen 9\ntouch 2\nsavepoint s\nopen 10\nclose 10\nopen 11\nrollback to s\ntouch 9\ncommit\n"

pub files : keeps_laws (record options { descriptors = 8 }) (lines_of files_script) ≡ true
unfolding all_rules
files = refl

abbrev pub kinds_script : List ℕ
kinds_script = codes "# keys of the two extension kinds, and registered snapshots\nbegin\nacquire handle 9\nacquire conn 5\nsnapshot 3\nsnapshot 3\npin 7\ndrop conn 5\nunsnapshot 3\nacquire conn 6\ncommit\nbegin\nacquire conn 1\nacquire conn 1\nsavepoint s\nacquire conn 2\nacquire handle 1\nrollback to s\nacquire conn 3\nacquire conn 4\nacquire conn 5\nrollback to s\nacquire lamp 1\nrollback\nacquire conn 9\ndrop conn 9\n"

pub kinds : keeps_laws options (lines_of kinds_script) ≡ true
unfolding all_rules
kinds = refl

abbrev pub locks_script : List ℕ
locks_script = codes "# two sessions take locks: a lock that conflicts is refused, a savepoint's locks go with it or pass to the level above\nbegin\nlock 5 AccessShareLock\nlock 9 ShareUpdateExclusiveLock\n@2 begin\n@2 lock 5 AccessExclusiveLock\n@2 rollback\n@2 begin\n@2 lock 5 AccessShareLock\n@2 lock 7 RowExclusiveLock\nsavepoint s\nlock 5 AccessShareLock\nlock 7 RowShareLock\nlock 7 ShareLock\nrollback to s\nlock 5 AccessShareLock\nunlock 5 AccessShareLock\nlock 5 AccessShareLock\nrelease s\nunlock 9 AccessShareLock\nrollback\n@2 unlock 7 RowExclusiveLock\n@2 unlock 7 RowExclusiveLock\n@2 rollback\nbegin\nlock 5 AccessExclusiveLock\ncommit\n@3 lock 5 AccessShareLock\n@2 begin\n@2 lock 8 ShareRowExclusiveLock\nlock 8 RowExclusiveLock\n"

pub locks : keeps_laws (record options { sessions = 2 }) (lines_of locks_script) ≡ true
unfolding all_rules
locks = refl

abbrev pub outside_script : List ℕ
outside_script = codes "# A command outside a transaction block has one of its own; a context below c3 outlives it.\npin 3\ncontext kept CacheMemoryContext default\nswitch kept\nraise\ndelete kept\n"

pub outside : keeps_laws options (lines_of outside_script) ≡ true
unfolding all_rules
outside = refl

abbrev pub plans_script : List ℕ
plans_script = codes "# A plan stands until it is dropped: then it goes with its context, or with the last reference to it.\nplan 1\nplan 1\nbegin\nplan 2\nplanref 2\nplanref 1\nplanref 2\nplandrop 2\nplanref 2\nrollback\nstat\nbegin\nplanref 1\nsavepoint s\nplanref 1\nplandrop 1\nplan 1\nrollback to s\nrelease s\nplanunref 1\nstat\nplanunref 1\ncommit\nplan 3\nbegin\nplanref 3\nsavepoint t\nplanref 3\nrelease t\nplandrop 3\ncommit\nplan 4\nplandrop 4\nplandrop 4\n"

pub plans : keeps_laws options (lines_of plans_script) ≡ true
unfolding all_rules
plans = refl

abbrev pub portals_script : List ℕ
portals_script = codes "# A portal is opened over a scan, fetched from a few rows at a time, and closed: by itself, or by the end of its transaction.\nbegin\nportal p 7 25\nfetch p 3\nfetch p 12\nstat\nportal p 8 1\nrollback\n# a lone fetch finds no portal, since each goes with its transaction\nfetch p 1\nendportal p\nbegin\nportal q 1022 23\nportal r 5 0\nfetch r 4\nfetch q 11\nfetch q 100\nfetch q 1\nendportal q\nendportal r\nstat\n# an open one is closed at commit, without a warning, and its lock stays till then\nportal s 9 2\nfetch s 1\ncommit\nportal t 3 12\nstat\nbegin\nfetch t 1\ncommit\n"

pub portals : keeps_laws options (lines_of portals_script) ≡ true
unfolding all_rules
portals = refl

abbrev pub portals_aborted_script : List ℕ
portals_aborted_script = codes "# Portals and savepoints: a portal belongs to its level, passes up where that commits, and fails where it aborts.\nbegin\nportal outer 40 30 3\nsavepoint s\nportal inner 50 5\nfetch inner 2\nrelease s\nfetch inner 2\nsavepoint t\nportal lost 60 5\nfetch lost 1\nrollback to t\nfetch lost 1\nrollback to t\nfetch outer 3\n# row 3 can't be read: the portal has failed, and the level that met the row has its owner\nfetch outer 5\nrollback to t\nfetch outer 1\nrollback to t\nendportal outer\nrelease t\nfetch inner 9\nendportal inner\ncommit\n# the locks that portals hold keep other sessions away\nbegin\nportal p 7 2\n@2 begin\n@2 lock 7 AccessExclusiveLock\n@2 rollback\nraise\n@2 lock 7 AccessExclusiveLock\nrollback\n# a portal that can't have its lock is none\n@2 begin\n@2 lock 8 AccessExclusiveLock\nbegin\nportal p 8 2\nrollback\n@2 rollback\nbegin\nportal\nportal p 8\nfetch p 0\nportal p 8 1000001\nrollback\n"

pub portals_aborted : keeps_laws (record options { sessions = 2 }) (lines_of portals_aborted_script) ≡ true
unfolding all_rules
portals_aborted = refl

abbrev pub references_script : List ℕ
references_script = codes "# Pins and references are given back one by one, or released by kind at the end; what isn't held can't be given back.\nbegin\npin 7\nref tupdesc 6\nref relcache 40\npin 7\nunpin 7\nref catcache 3\nunref relcache 40\ncommit\nunref relcache 40\n"

pub references : keeps_laws options (lines_of references_script) ≡ true
unfolding all_rules
references = refl

abbrev pub reports_script : List ℕ
reports_script = codes "# What each context has, and what a session holds.\nbegin\ncontext w TopMemoryContext default\nswitch w\nalloc a 100\nreport\nfree a\nreport\ncontext b CurTransactionContext bump\nswitch b\nalloc x 500\nsavepoint s\npin 9\npin 9\nref tupdesc 6\nlock 5 ShareLock\nopen 3\nstat\nrollback\nstat\nreport\n"

pub reports : keeps_laws options (lines_of reports_script) ≡ true
unfolding all_rules
reports = refl

abbrev pub rollback_script : List ℕ
rollback_script = codes "# An abort releases without a warning, the newest pin first.\nbegin\npin 7\npin 8\npin 7\nrollback\n"

pub rollback : keeps_laws options (lines_of rollback_script) ≡ true
unfolding all_rules
rollback = refl

abbrev pub savepoints_script : List ℕ
savepoints_script = codes "# A savepoint that is released: its context stays, since memory was taken there.\nbegin\nsavepoint s\nalloc a 10\npin 3\nrelease s\ncommit\n# One that is empty goes with its context.\nbegin\nsavepoint s\nsavepoint t\npin 4\nrelease s\nrollback\n# Back to a savepoint: what stands below it goes, and it is begun again.\nbegin\nsavepoint s\npin 5\nsavepoint t\ncontext p CurTransactionContext default\nonreset p\nrollback to s\nalloc b 20\nrollback to s\nshow b 0 1\n# The transaction is aborted now: only its ends are taken, and the way back to a savepoint.\nsavepoint u\nrelease s\nrollback to s\npin 6\nunpin 6\nsavepoint u\nraise\ncommit\n# Two savepoints of one name: the deepest is meant.\nbegin\nsavepoint s\nsavepoint s\nrelease s\nrollback to s\nrelease s\nrelease s\n# No such savepoint aborts the transaction, also at the deepest of its levels alone.\nrollback\nsavepoint s\nrelease s\nrollback to s\n# A savepoint that isn't ended.\nbegin\nsavepoint s\nsavepoint t\nalloc a 10\n"

pub savepoints : keeps_laws options (lines_of savepoints_script) ≡ true
unfolding all_rules
savepoints = refl

abbrev pub sessions_script : List ℕ
sessions_script = codes "# two sessions in turn: each has its own transaction, contexts and pins, and its numbers\nbegin\ncontext p CurTransactionContext small\nonreset p\n@2 begin\n@2 context q TopMemoryContext default\n@2 onreset q\n@2 pin 7\npin 7\n# an error of one session leaves the other alone\n@2 raise\nrollback\n@2 rollback\n@2 alloc a 100\n# a session that isn't there\n@3 pin 7\n@3 nonsense\n# all sessions end at the end of the script\n@1 begin\n@2 begin\n@2 pin 1\n"

pub sessions : keeps_laws (record options { sessions = 2 }) (lines_of sessions_script) ≡ true
unfolding all_rules
sessions = refl

abbrev pub unfinished_script : List ℕ
unfinished_script = codes "# The script ends in a transaction: it is rolled back, and nothing is left.\nbegin\npin 1\npin 2\n"

pub unfinished : keeps_laws options (lines_of unfinished_script) ≡ true
unfolding all_rules
unfinished = refl

abbrev pub warnings_script : List ℕ
warnings_script = codes "# Warnings: a second begin, and an end without a beginning.\ncommit\nbegin\nbegin\nrollback\nrollback\n"

pub warnings : keeps_laws options (lines_of warnings_script) ≡ true
unfolding all_rules
warnings = refl
