-- The kinds of items that references are.
use Rattle.pgs_step.specs.declared.ids.KindId.{KindId}
use Rattle.pgs_step.specs.declared.ids.TheConstants.KindId.{RELCACHE_REFERENCE, CATCACHE_REFERENCE, CATCACHE_LIST_REFERENCE, TUPLE_DESCRIPTOR_REFERENCE}
use Rattle.pgs_command.specs.declared.kinds.ReferenceClass.{ReferenceClass}
use Rattle.pgs_command.specs.declared.kinds.ReferenceClass.TheVariants.{Relcache, Catcache, CatcacheList, TupleDescriptor}

-- the number of the kind among those that are built in
abbrev pub class_kind : ReferenceClass → KindId
class_kind Relcache = RELCACHE_REFERENCE
class_kind Catcache = CATCACHE_REFERENCE
class_kind CatcacheList = CATCACHE_LIST_REFERENCE
class_kind TupleDescriptor = TUPLE_DESCRIPTOR_REFERENCE
