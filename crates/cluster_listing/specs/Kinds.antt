-- What records are called.
use Rattle.std.specs.Prelude.{ℕ, ◌/◌, List, [], ◌∷◌, codes, length, nat_lt, ◌==◌, slice_index_or, if◌then◌else◌}
use Rattle.waldump_text.specs.Names.{record_word, word_text}
use Rattle.cluster_listing.specs.declared.kinds.KindName.{KindName}
use Rattle.cluster_listing.specs.declared.kinds.KindName.TheVariants.{Own, Other}

-- the words of a manager's records, by the upper four bits of their info; some have none
abbrev pub xlog_kinds : List (List ℕ)
xlog_kinds =
    codes "CHECKPOINT_SHUTDOWN" ∷ codes "CHECKPOINT_ONLINE" ∷ codes "NOOP" ∷ codes "NEXTOID" ∷
    codes "SWITCH" ∷ codes "BACKUP_END" ∷ codes "PARAMETER_CHANGE" ∷ codes "RESTORE_POINT" ∷
    codes "FPW_CHANGE" ∷ codes "END_OF_RECOVERY" ∷ codes "FPI_FOR_HINT" ∷ codes "FPI" ∷
    codes "" ∷ codes "OVERWRITE_CONTRECORD" ∷ codes "" ∷ codes "" ∷ []

abbrev pub transaction_kinds : List (List ℕ)
transaction_kinds =
    codes "COMMIT" ∷ codes "PREPARE" ∷ codes "ABORT" ∷ codes "COMMIT_PREPARED" ∷
    codes "ABORT_PREPARED" ∷ codes "ASSIGNMENT" ∷ codes "INVALIDATION" ∷ codes "" ∷
    codes "COMMIT" ∷ codes "PREPARE" ∷ codes "ABORT" ∷ codes "COMMIT_PREPARED" ∷
    codes "ABORT_PREPARED" ∷ codes "ASSIGNMENT" ∷ codes "INVALIDATION" ∷ codes "" ∷ []

abbrev pub storage_kinds : List (List ℕ)
storage_kinds =
    codes "" ∷ codes "CREATE" ∷ codes "TRUNCATE" ∷ codes "" ∷ codes "" ∷ codes "" ∷ codes "" ∷
    codes "" ∷ codes "" ∷ codes "" ∷ codes "" ∷ codes "" ∷ codes "" ∷ codes "" ∷ codes "" ∷
    codes "" ∷ []

abbrev pub clog_kinds : List (List ℕ)
clog_kinds =
    codes "ZEROPAGE" ∷ codes "TRUNCATE" ∷ codes "" ∷ codes "" ∷ codes "" ∷ codes "" ∷ codes "" ∷
    codes "" ∷ codes "" ∷ codes "" ∷ codes "" ∷ codes "" ∷ codes "" ∷ codes "" ∷ codes "" ∷
    codes "" ∷ []

abbrev pub database_kinds : List (List ℕ)
database_kinds =
    codes "CREATE_FILE_COPY" ∷ codes "CREATE_WAL_LOG" ∷ codes "DROP" ∷ codes "" ∷ codes "" ∷
    codes "" ∷ codes "" ∷ codes "" ∷ codes "" ∷ codes "" ∷ codes "" ∷ codes "" ∷ codes "" ∷
    codes "" ∷ codes "" ∷ codes "" ∷ []

abbrev pub tablespace_kinds : List (List ℕ)
tablespace_kinds =
    codes "CREATE" ∷ codes "DROP" ∷ codes "" ∷ codes "" ∷ codes "" ∷ codes "" ∷ codes "" ∷
    codes "" ∷ codes "" ∷ codes "" ∷ codes "" ∷ codes "" ∷ codes "" ∷ codes "" ∷ codes "" ∷
    codes "" ∷ []

abbrev pub multi_xact_kinds : List (List ℕ)
multi_xact_kinds =
    codes "ZERO_OFF_PAGE" ∷ codes "ZERO_MEM_PAGE" ∷ codes "CREATE_ID" ∷ codes "TRUNCATE_ID" ∷
    codes "" ∷ codes "" ∷ codes "" ∷ codes "" ∷ codes "" ∷ codes "" ∷ codes "" ∷ codes "" ∷
    codes "" ∷ codes "" ∷ codes "" ∷ codes "" ∷ []

abbrev pub rel_map_kinds : List (List ℕ)
rel_map_kinds =
    codes "UPDATE" ∷ codes "" ∷ codes "" ∷ codes "" ∷ codes "" ∷ codes "" ∷ codes "" ∷
    codes "" ∷ codes "" ∷ codes "" ∷ codes "" ∷ codes "" ∷ codes "" ∷ codes "" ∷ codes "" ∷
    codes "" ∷ []

abbrev pub standby_kinds : List (List ℕ)
standby_kinds =
    codes "LOCK" ∷ codes "RUNNING_XACTS" ∷ codes "INVALIDATIONS" ∷ codes "" ∷ codes "" ∷
    codes "" ∷ codes "" ∷ codes "" ∷ codes "" ∷ codes "" ∷ codes "" ∷ codes "" ∷ codes "" ∷
    codes "" ∷ codes "" ∷ codes "" ∷ []

abbrev pub heap2_kinds : List (List ℕ)
heap2_kinds =
    codes "REWRITE" ∷ codes "PRUNE" ∷ codes "VACUUM" ∷ codes "FREEZE_PAGE" ∷ codes "VISIBLE" ∷
    codes "MULTI_INSERT" ∷ codes "LOCK_UPDATED" ∷ codes "NEW_CID" ∷ codes "" ∷ codes "" ∷
    codes "" ∷ codes "" ∷ codes "" ∷ codes "MULTI_INSERT+INIT" ∷ codes "" ∷ codes "" ∷ []

abbrev pub heap_kinds : List (List ℕ)
heap_kinds =
    codes "INSERT" ∷ codes "DELETE" ∷ codes "UPDATE" ∷ codes "TRUNCATE" ∷ codes "HOT_UPDATE" ∷
    codes "HEAP_CONFIRM" ∷ codes "LOCK" ∷ codes "INPLACE" ∷ codes "INSERT+INIT" ∷ codes "" ∷
    codes "UPDATE+INIT" ∷ codes "" ∷ codes "HOT_UPDATE+INIT" ∷ codes "" ∷ codes "" ∷ codes "" ∷ []

abbrev pub btree_kinds : List (List ℕ)
btree_kinds =
    codes "INSERT_LEAF" ∷ codes "INSERT_UPPER" ∷ codes "INSERT_META" ∷ codes "SPLIT_L" ∷
    codes "SPLIT_R" ∷ codes "INSERT_POST" ∷ codes "DEDUP" ∷ codes "DELETE" ∷
    codes "UNLINK_PAGE" ∷ codes "UNLINK_PAGE_META" ∷ codes "NEWROOT" ∷
    codes "MARK_PAGE_HALFDEAD" ∷ codes "VACUUM" ∷ codes "REUSE_PAGE" ∷ codes "META_CLEANUP" ∷
    codes "" ∷ []

abbrev pub hash_kinds : List (List ℕ)
hash_kinds =
    codes "INIT_META_PAGE" ∷ codes "INIT_BITMAP_PAGE" ∷ codes "INSERT" ∷ codes "ADD_OVFL_PAGE" ∷
    codes "SPLIT_ALLOCATE_PAGE" ∷ codes "SPLIT_PAGE" ∷ codes "SPLIT_COMPLETE" ∷
    codes "MOVE_PAGE_CONTENTS" ∷ codes "SQUEEZE_PAGE" ∷ codes "DELETE" ∷ codes "SPLIT_CLEANUP" ∷
    codes "UPDATE_META_PAGE" ∷ codes "VACUUM_ONE_PAGE" ∷ codes "" ∷ codes "" ∷ codes "" ∷ []

abbrev pub gin_kinds : List (List ℕ)
gin_kinds =
    codes "" ∷ codes "CREATE_PTREE" ∷ codes "INSERT" ∷ codes "SPLIT" ∷ codes "VACUUM_PAGE" ∷
    codes "DELETE_PAGE" ∷ codes "UPDATE_META_PAGE" ∷ codes "INSERT_LISTPAGE" ∷
    codes "DELETE_LISTPAGE" ∷ codes "VACUUM_DATA_LEAF_PAGE" ∷ codes "" ∷ codes "" ∷ codes "" ∷
    codes "" ∷ codes "" ∷ codes "" ∷ []

abbrev pub gist_kinds : List (List ℕ)
gist_kinds =
    codes "PAGE_UPDATE" ∷ codes "DELETE" ∷ codes "PAGE_REUSE" ∷ codes "PAGE_SPLIT" ∷ codes "" ∷
    codes "" ∷ codes "PAGE_DELETE" ∷ codes "ASSIGN_LSN" ∷ codes "" ∷ codes "" ∷ codes "" ∷
    codes "" ∷ codes "" ∷ codes "" ∷ codes "" ∷ codes "" ∷ []

abbrev pub sequence_kinds : List (List ℕ)
sequence_kinds =
    codes "LOG" ∷ codes "" ∷ codes "" ∷ codes "" ∷ codes "" ∷ codes "" ∷ codes "" ∷ codes "" ∷
    codes "" ∷ codes "" ∷ codes "" ∷ codes "" ∷ codes "" ∷ codes "" ∷ codes "" ∷ codes "" ∷ []

abbrev pub spgist_kinds : List (List ℕ)
spgist_kinds =
    codes "" ∷ codes "ADD_LEAF" ∷ codes "MOVE_LEAFS" ∷ codes "ADD_NODE" ∷ codes "SPLIT_TUPLE" ∷
    codes "PICKSPLIT" ∷ codes "VACUUM_LEAF" ∷ codes "VACUUM_ROOT" ∷ codes "VACUUM_REDIRECT" ∷
    codes "" ∷ codes "" ∷ codes "" ∷ codes "" ∷ codes "" ∷ codes "" ∷ codes "" ∷ []

abbrev pub brin_kinds : List (List ℕ)
brin_kinds =
    codes "CREATE_INDEX" ∷ codes "INSERT" ∷ codes "UPDATE" ∷ codes "SAMEPAGE_UPDATE" ∷
    codes "REVMAP_EXTEND" ∷ codes "DESUMMARIZE" ∷ codes "" ∷ codes "" ∷ codes "" ∷
    codes "INSERT+INIT" ∷ codes "UPDATE+INIT" ∷ codes "" ∷ codes "" ∷ codes "" ∷ codes "" ∷
    codes "" ∷ []

abbrev pub commit_ts_kinds : List (List ℕ)
commit_ts_kinds =
    codes "ZEROPAGE" ∷ codes "TRUNCATE" ∷ codes "" ∷ codes "" ∷ codes "" ∷ codes "" ∷ codes "" ∷
    codes "" ∷ codes "" ∷ codes "" ∷ codes "" ∷ codes "" ∷ codes "" ∷ codes "" ∷ codes "" ∷
    codes "" ∷ []

abbrev pub replication_origin_kinds : List (List ℕ)
replication_origin_kinds =
    codes "SET" ∷ codes "DROP" ∷ codes "" ∷ codes "" ∷ codes "" ∷ codes "" ∷ codes "" ∷
    codes "" ∷ codes "" ∷ codes "" ∷ codes "" ∷ codes "" ∷ codes "" ∷ codes "" ∷ codes "" ∷
    codes "" ∷ []

abbrev pub generic_kinds : List (List ℕ)
generic_kinds =
    codes "Generic" ∷ codes "Generic" ∷ codes "Generic" ∷ codes "Generic" ∷ codes "Generic" ∷
    codes "Generic" ∷ codes "Generic" ∷ codes "Generic" ∷ codes "Generic" ∷ codes "Generic" ∷
    codes "Generic" ∷ codes "Generic" ∷ codes "Generic" ∷ codes "Generic" ∷ codes "Generic" ∷
    codes "Generic" ∷ []

abbrev pub logical_message_kinds : List (List ℕ)
logical_message_kinds =
    codes "MESSAGE" ∷ codes "" ∷ codes "" ∷ codes "" ∷ codes "" ∷ codes "" ∷ codes "" ∷
    codes "" ∷ codes "" ∷ codes "" ∷ codes "" ∷ codes "" ∷ codes "" ∷ codes "" ∷ codes "" ∷
    codes "" ∷ []

-- those of PostgreSQL's own managers, by their numbers
abbrev pub kind_words : List (List (List ℕ))
kind_words =
    xlog_kinds ∷ transaction_kinds ∷ storage_kinds ∷ clog_kinds ∷ database_kinds ∷
    tablespace_kinds ∷ multi_xact_kinds ∷ rel_map_kinds ∷ standby_kinds ∷ heap2_kinds ∷
    heap_kinds ∷ btree_kinds ∷ hash_kinds ∷ gin_kinds ∷ gist_kinds ∷ sequence_kinds ∷
    spgist_kinds ∷ brin_kinds ∷ commit_ts_kinds ∷ replication_origin_kinds ∷ generic_kinds ∷
    logical_message_kinds ∷ []

-- a record's word in its manager's table, or none
abbrev pub own_kind : ℕ → ℕ → List ℕ
own_kind rmid info =
    if nat_lt rmid 22 then slice_index_or (slice_index_or kind_words rmid []) (info / 16) []
    else []

-- a record's word; one without is called by the upper four bits of its info
abbrev pub kind_word : ℕ → ℕ → List ℕ
kind_word rmid info =
    let word = own_kind rmid info in if length word == 0 then record_word rmid info else word

-- the text of a record's word
abbrev pub kind_text : KindName → List ℕ
kind_text (Own word) = word.now
kind_text (Other word) = word_text word
