mod Runs
mod GrantLists
mod SlotLaws
mod Refusing
mod LookLists
mod Searching
mod SearchLaws
