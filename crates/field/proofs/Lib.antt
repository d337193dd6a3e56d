pub mod FieldLaws
pub mod SurveyLaws
pub mod UsableLaws
