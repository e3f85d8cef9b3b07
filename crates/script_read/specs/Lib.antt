pub mod Forms
pub mod ScriptState
pub mod ScriptCalls
